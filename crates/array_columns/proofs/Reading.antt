-- A child's slot by value.
use mathlib.Core.Bool.{true, false}
use mathlib.Core.Path.{◌≡◌, refl}
use Prim.Native.Nat.{ℕ, ◌+◌}
use lib.ListN.{get_or}
use Rattle.array_columns.specs.Types.{Column, width_of, low_bits}
use Rattle.array_columns.specs.Buffers.{Buffers, only_words}
use Rattle.array_columns.specs.Slots.{present}
use Rattle.array_columns.specs.Lookup.{column_value}
use Rattle.array_columns.specs.Accepted.{slot_value_of}

module _ (c : Column) (m : Buffers) (p : ℕ) where
  pub slot_present : present c m p ≡ true → (b : ℕ) → b ≡ low_bits (width_of c.kind) (get_or m.values (c.values + p) 0) → record { bits = b; missing = false } ≡ slot_value_of c m p
  unfolding slot_value_of column_value
  slot_present h b e = rw (h, e)

  pub slot_missing : present c m p ≡ false → record { bits = 0; missing = true } ≡ slot_value_of c m p
  unfolding slot_value_of column_value
  slot_missing h = rw h

  -- only value words and mask words matter
  pub slot_words : slot_value_of c (only_words m.values m.masks) p ≡ slot_value_of c m p
  unfolding slot_value_of column_value present
  slot_words = refl
