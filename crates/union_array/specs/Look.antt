-- What one pass over the columns tells every call: the first no of 1 to 6, and the column with an id; and what the slot lookups share.
use Rattle.std.specs.Prelude.{ℕ, ℤ, pos}
use Rattle.std.proofs.Math.Option.{Option, none}
use Rattle.union_array.specs.Types.{Amounts, Column, UnionArray, no_column}
use Rattle.array_columns.specs.Buffers.{Buffers}
use Rattle.array_columns.specs.Refusal.{no, ◌then◌, if_yes}
use Rattle.union_array.specs.Slots.{in_use, column_of, type_id_at, child_at, slot_at}
use Rattle.union_array.specs.Questions.{question1, question2, question3, question4, question5, question6, asked, slot_checked}
use Rattle.union_array.specs.Lookup.{or_none}
pub use Rattle.array_slots.specs.ChildSlot.{ChildSlot, Looked, looked_told}

-- 1 to 6 by the amounts lent: they ask how much is lent, not what it holds
unfoldable pub asked_of : UnionArray → Amounts → ℕ
asked_of a lent =
    no 1 (question1 a)
    then no 2 (question2 a)
    then no 3 (question3 a lent)
    then no 4 (question4 a)
    then no 5 (question5 a)
    then no 6 (question6 a)

-- by a refusal's number: the column, none when refused
abbrev pub looked_by : Option Column → ℕ → Looked
looked_by o n = record { column = if_yes n o none; refusal = n }

-- the first no of 1 to 6; of an accepted array the column with an id
unfoldable pub look_of : UnionArray → Buffers → ℤ → Looked
look_of a m id = looked_by (column_of (in_use a) id) (asked a m)

-- the first no of 1 to 6, 10, 7 and 8 of slot i; of an accepted slot its child, its slot in it and its type id
unfoldable pub child_slot_of : UnionArray → Buffers → ℕ → ChildSlot
child_slot_of a m i = record {
  column = if_yes (slot_checked a m i) (or_none (child_at a m i)) no_column;
  slot = if_yes (slot_checked a m i) (slot_at a m i) 0;
  refusal = slot_checked a m i;
  id = if_yes (slot_checked a m i) (type_id_at a m i) (pos 0);
}
