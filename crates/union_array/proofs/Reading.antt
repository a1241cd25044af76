-- What a lookup tells of an accepted slot is what is read of it. Assumes nothing.
use mathlib.Core.Option.{Option}
use mathlib.Core.Path.{◌≡◌, sym, ap, ◌∙◌}
use Prim.Native.Nat.{ℕ}
use borrow.Author.Tests.{lt-ltb}
use Rattle.union_array.specs.Types.{Column, UnionArray, head_of}
use Rattle.array_columns.specs.Buffers.{Buffers}
use Rattle.array_columns.specs.Accepted.{slot_value_of}
use Rattle.union_array.specs.Slots.{in_use, type_id_at, child_at, slot_at, null_in, slot_null}
use Rattle.union_array.specs.Questions.{asked, slot_checked}
use Rattle.union_array.specs.Lookup.{or_none, column_value, value_of}
use Rattle.array_slots.specs.Values.{slot_value_at}
use Rattle.array_columns.proofs.Columns.{found_id}
use Rattle.union_array.proofs.Accepted.{Accepted, SlotAccepted, accepted, child_is}

module _ (a : UnionArray) (m : Buffers) (i : ℕ) (z : asked a m ≡ 0) (s : SlotAccepted a m i) where
  y : Accepted a m
  y = accepted a m z

  pub lookup : value_of a m i ≡ column_value (or_none (child_at a m i)) m (slot_at a m i)
  unfolding value_of slot_checked
  lookup = rw (z, lt-ltb i a.count s.low, s.named, s.fits, child_is a m y i s)

  pub told_id : type_id_at a m i ≡ (value_of a m i).id
  unfolding column_value
  told_id = sym (ap (λ v. v.id) lookup ∙ found_id (in_use a) (type_id_at a m i) (or_none (child_at a m i)) (child_is a m y i s))

  pub told_value : slot_value_at (head_of a) a.columns m i ≡ record { bits = (value_of a m i).bits; missing = (value_of a m i).missing }
  unfolding slot_value_of
  told_value = rw lookup

  pub told_mark : slot_null a m i ≡ (value_of a m i).missing
  unfolding slot_null column_value
  told_mark = ap (λ (o : Option Column). null_in o m (slot_at a m i)) (child_is a m y i s) ∙ sym (ap (λ v. v.missing) lookup)
