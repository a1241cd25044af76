-- A slot's child and its slot in it, by what was looked up and read: each way out. Assumes nothing.
use mathlib.Core.Path.{◌≡◌, refl}
use mathlib.Core.Bool.{true, false, false≢true}
use mathlib.Core.Option.{Option, none, some}
use Prim.Native.Nat.{ℕ, zero, suc, ◌≤◌, ◌<◌}
use borrow.Author.Tests.{lt-ltb, le-ltb}
use lib.IntN.{ℤ, pos, nat_abs}
use Rattle.array_slots.specs.Types.{Layout, Sparse, Dense, Column, no_column, by_layout}
use Rattle.array_columns.specs.Refusal.{◌then◌, if_yes}
use Rattle.array_columns.specs.Slots.{is_some}
use Rattle.array_columns.specs.Questions.{within}
use Rattle.array_columns.specs.Lookup.{or_none}
use Rattle.array_slots.specs.ChildSlot.{ChildSlot, no_child_slot, Looked, settled_no, settled}

-- of an accepted array, with the child that was found
abbrev pub accepted_look : Option Column → Looked
accepted_look column = record { column = column; refusal = 0 }

module _ (column : Option Column) (layout : Layout) (n i : ℕ) (id offset : ℤ) where
  -- the whole answer by the number that the lookup gave: 0, and it is that of the slot; another, and it is that number with zeros
  abbrev pub settled_after : ℕ → ChildSlot
  settled_after r = settled (record { column = column; refusal = r }) layout n i id offset

  pub settled_accepted : settled_after 0 ≡ settled (accepted_look column) layout n i id offset
  settled_accepted = refl

  pub settled_first : (r : ℕ) → (r ≡ 0 → ⊥) → no_child_slot r ≡ settled_after r
  unfolding settled
  settled_first zero h = absurd (h refl)
  settled_first (suc r) h = refl

  -- the slot is refused: by 10, then 7, then 8
  pub settled_10 : n ≤ i → no_child_slot 10 ≡ settled (accepted_look column) layout n i id offset
  unfolding settled
  settled_10 h = rw (le-ltb i n h)

  pub settled_7 : i < n → is_some column ≡ false → no_child_slot 7 ≡ settled (accepted_look column) layout n i id offset
  unfolding settled
  settled_7 h f = rw (lt-ltb i n h, f)

-- the slot is refused by 8, or it is accepted: slot i in sparse, its offset's in dense
module _ (layout : Layout) (n i : ℕ) (id offset : ℤ) where
  pub settled_8 : (column : Option Column) → i < n → is_some column ≡ true → layout ≡ Dense → within offset (or_none column).slots ≡ false
      → no_child_slot 8 ≡ settled (accepted_look column) layout n i id offset
  unfolding settled
  settled_8 none h f d w = absurd (false≢true f)
  settled_8 (some c) h f d w = rw (lt-ltb i n h, d, w)

  pub settled_sparse : (column : Option Column) → i < n → is_some column ≡ true → layout ≡ Sparse
      → ◌≡◌ {A = ChildSlot} (record { column = or_none column; slot = i; refusal = 0; id = id }) (settled (accepted_look column) layout n i id offset)
  unfolding settled
  settled_sparse column h f d = rw (lt-ltb i n h, f, d)

  pub settled_dense : (column : Option Column) → i < n → is_some column ≡ true → layout ≡ Dense → within offset (or_none column).slots ≡ true
      → ◌≡◌ {A = ChildSlot} (record { column = or_none column; slot = nat_abs offset; refusal = 0; id = id }) (settled (accepted_look column) layout n i id offset)
  unfolding settled
  settled_dense none h f d w = absurd (false≢true f)
  settled_dense (some c) h f d w = rw (lt-ltb i n h, d, w)
