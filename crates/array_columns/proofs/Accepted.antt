-- What the questions tell of an accepted column.
use mathlib.Core.Bool.{Bool, true, false, not, ◌||◌, false≢true}
use mathlib.Core.Option.{Option, none, some}
use mathlib.Core.Path.{◌≡◌, refl}
use Prim.Native.Nat.{ℕ, ◌+◌, ◌*◌, ◌≤◌, ◌<◌}
use lib.Dec.{leb}
use lib.IntN.{ℤ, pos, negsuc, nat_abs}
use lib.ListN.{length}
use borrow.Author.Tests.{leb-true, ltb-true}
use Rattle.array_columns.specs.Types.{Column, Amounts, first_bit}
use Rattle.array_columns.specs.Buffers.{Buffers, amounts_of}
use Rattle.array_columns.specs.Slots.{is_some}
use Rattle.array_columns.specs.Questions.{valid_id, mask_in, column_in, within}
use Rattle.array_columns.specs.Lookup.{or_none}
use Rattle.array_columns.proofs.Values.{inside}

-- ---- one column

pub record ColumnAccepted (m : Buffers) (c : Column) : Type 0 where
  pub valid : valid_id c.id ≡ true
  pub short : c.size ≤ 32
  pub name : c.name + c.size ≤ length m.names
  pub values : c.values + c.slots ≤ length m.values
  pub mask : mask_in c (length m.masks) ≡ true
  pub slots : c.slots ≤ 65536

module _ (m : Buffers) (c : Column) where
  pub column_parts : valid_id c.id ≡ true → column_in (amounts_of m) c ≡ true → leb c.slots 65536 ≡ true → ColumnAccepted m c
  column_parts v p s =
      let x = inside (amounts_of m) c p in
      record { valid = v; short = x.short; name = x.name; values = x.values; mask = x.mask; slots = leb-true c.slots 65536 s }

pub mask_part : (lent : Amounts) (c : Column) → mask_in c lent.masks ≡ true → c.masked ≡ true → first_bit c + c.slots ≤ 64 * lent.masks
mask_part lent c h e = leb-true (first_bit c + c.slots) (64 * lent.masks) (by c.masked e h)
  where
    by : (b : Bool) → b ≡ true → not b || leb (first_bit c + c.slots) (64 * lent.masks) ≡ true → leb (first_bit c + c.slots) (64 * lent.masks) ≡ true
    by true e h = h
    by false e h = absurd (false≢true e)

-- a column that is there
pub some_is : (o : Option Column) → is_some o ≡ true → o ≡ some (or_none o)
some_is none h = absurd (false≢true h)
some_is (some c) h = refl

pub within_abs : (z : ℤ) (n : ℕ) → within z n ≡ true → nat_abs z < n
within_abs (pos k) n h = ltb-true k n h
within_abs (negsuc k) n h = absurd (false≢true h)
