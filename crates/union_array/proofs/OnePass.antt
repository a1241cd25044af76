-- 1 to 6 in one pass. Assumes nothing.
use mathlib.Core.Bool.{Bool, true, ◌&&◌}
use mathlib.Core.Path.{◌≡◌, refl, sym, ap}
use Prim.Native.Nat.{◌≤◌, ◌<◌}
use lib.Dec.{eqb, leb}
use lib.IntN.{ℤ}
use lib.ListN.{length}
use borrow.Author.Tests.{le-leb, lt-leb}
use Rattle.std.specs.Prelude.{Ok, Err}
use Rattle.std.specs.declared.option.Option as given
use Rattle.union_array.specs.Types.{Column, UnionArray, by_layout}
use Rattle.array_columns.specs.Buffers.{Buffers, amounts_of}
use Rattle.array_columns.specs.Refusal.{no, ◌then◌, refusal_number}
use Rattle.array_columns.specs.declared.Refusal.{Refusal}
use Rattle.array_columns.specs.declared.Passed.{Passed}
use Rattle.array_columns.specs.Pass.{passed_told, column_told, pass_of}
use Rattle.union_array.specs.Slots.{in_use, column_of}
use Rattle.union_array.specs.Questions.{part_in, question1, question2, question3, question4, question5, question6, asked}
use Rattle.union_array.specs.Look.{asked_of, looked_told, looked_by, look_of}

-- 1 to 6 ask how much is lent, not what it holds
pub asked_of_lem : (a : UnionArray) (m : Buffers) → asked a m ≡ asked_of a (amounts_of m)
unfolding asked asked_of
asked_of_lem a m = refl

-- what 1 to 6 tell of the amounts lent, told of the memory
pub look_is : (a : UnionArray) (m : Buffers) (id : ℤ) → looked_by (column_of (in_use a) id) (asked_of a (amounts_of m)) ≡ look_of a m id
unfolding look_of
look_is a m id = ap (looked_by (column_of (in_use a) id)) (sym (asked_of_lem a m))

module _ (a : UnionArray) (m : Buffers) (id : ℤ) where
  -- more than 128 fields are refused before the pass
  pub many : 128 < a.fields → looked_told (Err Refusal.FieldIds) ≡ look_of a m id
  unfolding look_of asked question1
  many l = rw (lt-leb a.fields 128 l)

  module _ (p : Passed) (few : a.fields ≤ 128) (e : passed_told p ≡ pass_of (amounts_of m) a.layout a.count id (in_use a)) where
    -- 1 to 6, by what the pass tells of the columns
    pub looked_is : {b2 b3 b4 b5 : Bool} → b2 ≡ question2 a
        → b3 ≡ part_in a.start a.count (length m.ids) && (by_layout a.layout true (part_in a.offsets_start a.offsets_count (length m.offsets)) && p.parts)
        → b4 ≡ leb a.count 65536 && p.counts → b5 ≡ by_layout a.layout true (eqb a.offsets_count a.count)
        → looked_by (column_told p.column) (no 1 p.ids then no 2 b2 then no 3 b3 then no 4 b4 then no 5 b5 then no 6 p.slots) ≡ look_of a m id
    unfolding look_of asked question1 question3 question4 question5 question6 pass_of
    looked_is e2 e3 e4 e5 =
        rw (e2, e3, e4, e5, le-leb a.fields 128 few, ap (λ t. t.ids) e, ap (λ t. t.parts) e, ap (λ t. t.counts) e, ap (λ t. t.slots) e, ap (λ t. t.column) e)

-- the number of a look is that of 1 to 6
module _ (a : UnionArray) (m : Buffers) (id : ℤ) where
  pub asked_err : (r : Refusal) → looked_told (Err r) ≡ look_of a m id → refusal_number r ≡ asked a m
  unfolding look_of
  asked_err r e = ap (λ l. l.refusal) e

  pub asked_ok : (c : given.Option Column) → looked_told (Ok c) ≡ look_of a m id → 0 ≡ asked a m
  unfolding look_of
  asked_ok c e = ap (λ l. l.refusal) e
