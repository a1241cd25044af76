-- What the answers yes tell: of 1 to 6, of one column, of 7 and 8, and of a slot. Assumes nothing.
use mathlib.Core.Bool.{Bool, true}
use mathlib.Core.Option.{some}
use mathlib.Core.Path.{◌≡◌}
use Prim.Native.Nat.{ℕ, ◌+◌, ◌≤◌, ◌<◌}
use native.Mathlib.Omega.{arith}
use lib.Dec.{eqb, leb}
use lib.IntN.{ℤ}
use lib.ListN.{length, get_or}
use borrow.Author.Tests.{leb-true, eqb-true, ltb-true}
use Rattle.bitmap.proofs.Tables.{both, every_at}
use Rattle.union_array.specs.Types.{Sparse, Dense, Column, UnionArray, no_column, by_layout, head_of}
use Rattle.array_columns.specs.Buffers.{Buffers, amounts_of}
use Rattle.union_array.specs.Slots.{in_use, all, column_of, child_at, slot_at}
use Rattle.union_array.specs.Questions.{valid_id, distinct, part_in, column_in, question1, question2, question3, question4, question5, question6, question7, question8, question10, named_at, offset_fits, asked, checked, slot_checked}
use Rattle.union_array.specs.Lookup.{or_none}
use Rattle.array_slots.specs.Accepted as low
use Rattle.array_columns.proofs.Tests.{then_zero, yes_is, yes_then}
use Rattle.array_columns.proofs.Columns.{all_at, all_found}
use Rattle.array_columns.proofs.Accepted.{column_parts}
use Rattle.array_slots.proofs.Reading as reading
pub use Rattle.array_columns.proofs.Accepted.{ColumnAccepted, mask_part, some_is}

-- ---- 1 to 6

-- each answered yes
pub record Yes (a : UnionArray) (m : Buffers) : Type 0 where
  pub q1 : question1 a ≡ true
  pub q2 : question2 a ≡ true
  pub q3 : question3 a (amounts_of m) ≡ true
  pub q4 : question4 a ≡ true
  pub q5 : question5 a ≡ true
  pub q6 : question6 a ≡ true

-- what that tells
pub record Accepted (a : UnionArray) (m : Buffers) : Type 0 where
  pub few : a.fields ≤ 128
  pub valid : all (λ c. valid_id c.id) (in_use a) ≡ true
  pub alone : distinct (in_use a) ≡ true
  pub children : a.children ≡ a.fields
  pub ids : a.start + a.count ≤ length m.ids
  pub offsets : a.layout ≡ Dense → a.offsets_start + a.count ≤ length m.offsets
  pub parts : all (column_in (amounts_of m)) (in_use a) ≡ true
  pub count : a.count ≤ 65536
  pub slots : all (λ c. leb c.slots 65536) (in_use a) ≡ true
  pub matched : a.layout ≡ Dense → a.offsets_count ≡ a.count
  pub equal : a.layout ≡ Sparse → all (λ c. eqb c.slots a.count) (in_use a) ≡ true

module _ (a : UnionArray) (m : Buffers) where
  dense_is : (b : Bool) → by_layout a.layout true b ≡ true → a.layout ≡ Dense → b ≡ true
  dense_is b h e = rw e at h

  sparse_is : (b : Bool) → by_layout a.layout b true ≡ true → a.layout ≡ Sparse → b ≡ true
  sparse_is b h e = rw e at h

  pub all_yes : Yes a m → asked a m ≡ 0
  unfolding asked
  all_yes y = rw (y.q1, y.q2, y.q3, y.q4, y.q5, y.q6)

  pub each_yes : asked a m ≡ 0 → Yes a m
  unfolding asked
  each_yes h =
      let y1 = yes_then 0 (question1 a) _ h in
      let y2 = yes_then 1 (question2 a) _ y1.1 in
      let y3 = yes_then 2 (question3 a (amounts_of m)) _ y2.1 in
      let y4 = yes_then 3 (question4 a) _ y3.1 in
      let y5 = yes_then 4 (question5 a) _ y4.1 in
      record { q1 = y1.0; q2 = y2.0; q3 = y3.0; q4 = y4.0; q5 = y5.0; q6 = yes_is 5 (question6 a) y5.1 }

  pub accepted : asked a m ≡ 0 → Accepted a m
  unfolding question1 question3 question4 question5 question6
  accepted h =
      let y = each_yes h in
      let q1 = both (leb a.fields 128) _ y.q1 in
      let i1 = both (all (λ c. valid_id c.id) (in_use a)) (distinct (in_use a)) q1.1 in
      let q3 = both (part_in a.start a.count (length m.ids)) _ y.q3 in
      let part = part_in a.offsets_start a.offsets_count (length m.offsets) in
      let i3 = both (by_layout a.layout true part) (all (column_in (amounts_of m)) (in_use a)) q3.1 in
      let q4 = both (leb a.count 65536) (all (λ c. leb c.slots 65536) (in_use a)) y.q4 in
      let same : a.layout ≡ Dense → a.offsets_count ≡ a.count
      = λ e. eqb-true a.offsets_count a.count (dense_is (eqb a.offsets_count a.count) y.q5 e) in
      record {
        few = leb-true a.fields 128 q1.0;
        valid = i1.0;
        alone = i1.1;
        children = eqb-true a.children a.fields y.q2;
        ids = leb-true (a.start + a.count) (length m.ids) q3.0;
        offsets =
            λ e.
            let p = leb-true (a.offsets_start + a.offsets_count) (length m.offsets) (dense_is part i3.0 e) in
            let q = same e in
            omega arith;
        parts = i3.1;
        count = leb-true a.count 65536 q4.0;
        slots = q4.1;
        matched = same;
        equal = sparse_is (all (λ c. eqb c.slots a.count) (in_use a)) y.q6;
      }

module _ (a : UnionArray) (m : Buffers) (y : Accepted a m) where
  -- the column at a place in use
  pub column_at_lem : (j : ℕ) → j < a.fields → j < length a.columns → ColumnAccepted m (get_or a.columns j no_column)
  column_at_lem j l k =
      column_parts m (get_or a.columns j no_column) (all_at (λ c. valid_id c.id) a.fields a.columns j y.valid l k)
      (all_at (column_in (amounts_of m)) a.fields a.columns j y.parts l k)
      (all_at (λ c. leb c.slots 65536) a.fields a.columns j y.slots l k)

  pub slots_at : a.layout ≡ Sparse → (j : ℕ) → j < a.fields → j < length a.columns → (get_or a.columns j no_column).slots ≡ a.count
  slots_at e j l k =
      eqb-true (get_or a.columns j no_column).slots a.count (all_at (λ c. eqb c.slots a.count) a.fields a.columns j (y.equal e) l k)

  -- the column with an id
  pub column_found : (id : ℤ) (c : Column) → column_of (in_use a) id ≡ some c → ColumnAccepted m c
  column_found id c f =
      column_parts m c (all_found (λ c. valid_id c.id) (in_use a) id c y.valid f) (all_found (column_in (amounts_of m)) (in_use a) id c y.parts f)
      (all_found (λ c. leb c.slots 65536) (in_use a) id c y.slots f)

  pub slots_found : a.layout ≡ Sparse → (id : ℤ) (c : Column) → column_of (in_use a) id ≡ some c → c.slots ≡ a.count
  slots_found e id c f =
      eqb-true c.slots a.count (all_found (λ c. eqb c.slots a.count) (in_use a) id c (y.equal e) f)

-- ---- a slot

-- 10, 7 and 8 of slot i
abbrev pub SlotAccepted : UnionArray → Buffers → ℕ → Type 0
SlotAccepted a m i = low.SlotAccepted (head_of a) a.columns m.ids m.offsets i

module _ (a : UnionArray) (m : Buffers) (y : Accepted a m) (i : ℕ) (s : SlotAccepted a m i) where
  abbrev child : Column
  child = or_none (child_at a m i)

  pub child_is : child_at a m i ≡ some child
  child_is = some_is (child_at a m i) s.named

  pub child_accepted : ColumnAccepted m child
  child_accepted = column_found a m y _ child child_is

  -- the slot is one of its child's
  pub slot_in : slot_at a m i < child.slots
  slot_in = reading.slot_in (head_of a) a.columns m.ids m.offsets i s (λ e. slots_found a m y e _ child child_is)

-- ---- 7 and 8 of every slot, or of one

pub record AllAccepted (a : UnionArray) (m : Buffers) : Type 0 where
  pub array : Accepted a m
  pub slot : (i : ℕ) → i < a.count → SlotAccepted a m i

module _ (a : UnionArray) (m : Buffers) where
  pub all_accepted : checked a m ≡ 0 → AllAccepted a m
  unfolding checked question7 question8
  all_accepted h =
      let y = then_zero (asked a m) _ h in
      let y7 = yes_then 6 (question7 a m) _ y.1 in
      record {
        array = accepted a m y.0;
        slot = λ i l. record {
          low = l;
          named = every_at a.count (named_at a m) y7.0 i l;
          fits = every_at a.count (offset_fits a m) (yes_is 7 (question8 a m) y7.1) i l;
        };
      }

  pub slot_accepted : (i : ℕ) → slot_checked a m i ≡ 0 → Accepted a m × SlotAccepted a m i
  unfolding slot_checked
  slot_accepted i h =
      let y = then_zero (asked a m) _ h in
      let y10 = yes_then 9 (question10 a i) _ y.1 in
      let y7 = yes_then 6 (named_at a m i) _ y10.1 in
      (accepted a m y.0, record { low = ltb-true i a.count y10.0; named = y7.0; fits = yes_is 7 (offset_fits a m i) y7.1 })
