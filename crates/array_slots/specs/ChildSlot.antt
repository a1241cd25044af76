-- A slot's child and its slot in it, from what was looked up and read: what the slot lookups share.
use Rattle.std.specs.Prelude.{true, ℕ, ltb, ℤ, pos, nat_abs, Result, Ok, Err}
use Rattle.std.proofs.Math.Option.{Option, none}
use Rattle.std.specs.declared.option.Option as given
use Rattle.array_slots.specs.Types.{Layout, Column, no_column, by_layout}
use Rattle.array_columns.specs.declared.Refusal.{Refusal}
use Rattle.array_columns.specs.Refusal.{refusal_number, no, ◌then◌, if_yes}
use Rattle.array_columns.specs.Slots.{is_some}
use Rattle.array_columns.specs.Pass.{column_told}
use Rattle.array_columns.specs.Questions.{within_child}
use Rattle.array_columns.specs.Lookup.{or_none}
use Rattle.array_slots.specs.declared.ChildSlot as code

-- a slot's child, its slot in it and its type id, or a refusal
pub record ChildSlot : Type 0 where
  pub column : Column
  pub slot : ℕ
  pub refusal : ℕ
  pub id : ℤ

-- a refused one: its number with zeros
abbrev pub no_child_slot : ℕ → ChildSlot
no_child_slot n = record { column = no_column; slot = 0; refusal = n; id = pos 0 }

-- of each case of the code's answer, document 01's number and values
abbrev pub child_slot_told : Result code.ChildSlot Refusal → ChildSlot
child_slot_told (Ok s) = record { column = s.column; slot = s.slot; refusal = 0; id = s.id }
child_slot_told (Err r) = no_child_slot (refusal_number r)

-- what one pass over the columns tells every call: a column if there is one, and a number
pub record Looked : Type 0 where
  pub column : Option Column
  pub refusal : ℕ

-- of each case of the code's answer, the column and document 01's number
abbrev pub looked_told : Result (given.Option Column) Refusal → Looked
looked_told (Ok c) = record { column = column_told c; refusal = 0 }
looked_told (Err r) = record { column = none; refusal = refusal_number r }

-- the first no: of 1 to 6 as looked, then 10, 7, 8 of slot i of n, with its offset
abbrev pub settled_no : Looked → Layout → ℕ → ℕ → ℤ → ℕ
settled_no l layout n i offset =
    l.refusal then no 10 (ltb i n) then no 7 (is_some l.column) then no 8 (by_layout layout true (within_child offset l.column))

-- from what was looked up and read for slot i of n: its column, its type id and its offset
unfoldable pub settled : Looked → Layout → ℕ → ℕ → ℤ → ℤ → ChildSlot
settled l layout n i id offset = record {
  column = if_yes (settled_no l layout n i offset) (or_none l.column) no_column;
  slot = if_yes (settled_no l layout n i offset) (by_layout layout i (nat_abs offset)) 0;
  refusal = settled_no l layout n i offset;
  id = if_yes (settled_no l layout n i offset) id (pos 0);
}
