-- What each call on an array answers, on every input: slices are in Slices.antt.
use Rattle.std.specs.Prelude.{Bool, true, false, not, List, [], ◌++◌, map, ℕ, ◌-◌, eqb, ℤ, pos, take, drop, replicate, Result, Ok, Err}
use Rattle.union_array.specs.Types.{Column, UnionArray, no_column, by_layout}
use Rattle.array_columns.specs.Buffers.{Buffers}
use Rattle.array_columns.specs.Refusal.{no, ◌then◌, if_yes}
use Rattle.union_array.specs.Slots.{in_use, all, column_of, type_id_at, child_at, slot_at, nulls_in}
use Rattle.union_array.specs.Questions.{asked, checked, slot_checked, question11}
pub use Rattle.union_array.specs.declared.NamePlace.{NamePlace}
use Rattle.union_array.specs.declared.TypeNames as code
use Rattle.std.specs.Borrow.{Bor}
use Rattle.array_columns.specs.declared.Refusal.{Refusal}
use Rattle.array_columns.specs.Refusal.{refusal_number}
pub use Rattle.array_columns.specs.Lookup.{Value, value_told}
pub use Rattle.array_columns.specs.Lookup.{no_value, value_in, or_none}
unfoldable pub use Rattle.array_columns.specs.Lookup.{padded, column_value}

-- ---- answers, in document 01's numbers; "A "no" ends the call with that number, .. all other answer fields 0"

-- what type_id answers
pub record TypeId : Type 0 where
  pub refusal : ℕ
  pub id : ℤ

-- what value_offset answers
pub record ValueOffset : Type 0 where
  pub offset : ℕ
  pub refusal : ℕ

-- what child answers
pub record Child : Type 0 where
  pub column : Column
  pub refusal : ℕ

-- what type_names answers
pub record TypeNames : Type 0 where
  pub names : List NamePlace
  pub count : ℕ
  pub refusal : ℕ

-- what is_dense and is_nullable answer
pub record Flag : Type 0 where
  pub refusal : ℕ
  pub holds : Bool

-- try_new: "asks 1 to 8"
abbrev pub try_new_of : UnionArray → Buffers → ℕ
try_new_of a m = checked a m

-- value: slot i's child at its slot there
unfoldable pub value_of : UnionArray → Buffers → ℕ → Value
value_of a m i = if_yes (slot_checked a m i) (value_in (child_at a m i) m (slot_at a m i)) (no_value (slot_checked a m i))

-- type_id: slot i's type id
unfoldable pub type_id_of : UnionArray → Buffers → ℕ → TypeId
type_id_of a m i = record { refusal = slot_checked a m i; id = if_yes (slot_checked a m i) (type_id_at a m i) (pos 0) }

-- "value_offset tells that number": the slot in the child
unfoldable pub value_offset_of : UnionArray → Buffers → ℕ → ValueOffset
value_offset_of a m i = record { offset = if_yes (slot_checked a m i) (slot_at a m i) 0; refusal = slot_checked a m i }

-- child: asks 1 to 6, then 11
abbrev pub child_checked : UnionArray → Buffers → ℤ → ℕ
child_checked a m id = asked a m then no 11 (question11 a id)

-- "child answers the list entry with the given id"
unfoldable pub child_of : UnionArray → Buffers → ℤ → Child
child_of a m id = record { column = if_yes (child_checked a m id) (or_none (column_of (in_use a) id)) no_column; refusal = child_checked a m id }

-- a column's name place and length
abbrev pub name_of : Column → NamePlace
name_of c = record { start = c.name; size = c.size }

-- the place of no name: zeros
abbrev pub no_name : NamePlace
no_name = record { start = 0; size = 0 }

-- refused names
abbrev pub no_type_names : ℕ → TypeNames
no_type_names n = record { names = replicate 128 no_name; count = 0; refusal = n }

-- "type_names the name places and lengths in list order, and how many"
unfoldable pub type_names_of : UnionArray → Buffers → TypeNames
type_names_of a m =
    if_yes (asked a m) (record { names = map name_of (in_use a) ++ replicate (128 - a.fields) no_name; count = a.fields; refusal = 0 }) (no_type_names (asked a m))

-- a refused flag
abbrev pub no_flag : ℕ → Flag
no_flag n = record { refusal = n; holds = false }

-- by a refusal's number: whether it holds
abbrev pub flag_by : ℕ → Bool → Flag
flag_by n b = if_yes n (record { refusal = 0; holds = b }) (no_flag n)

-- is_dense: whether the layout is dense
unfoldable pub is_dense_of : UnionArray → Buffers → Flag
is_dense_of a m = flag_by (asked a m) (by_layout a.layout false true)

-- is_nullable: "some child has a null anywhere in it, selected or not"
unfoldable pub is_nullable_of : UnionArray → Buffers → Flag
is_nullable_of a m = flag_by (asked a m) (not (all (λ c. eqb (nulls_in c m) 0) (in_use a)))

-- the shown type ids, with the refusal beside them
pub record Shown : Type 0 where
  pub refusal : ℕ
  pub ids : List ℤ

-- "A call shows the type ids of a batch as that part of the caller's own memory"; refused, "a shown part is empty"
unfoldable pub type_ids_of : UnionArray → Buffers → Shown
type_ids_of a m = record {
  refusal = asked a m;
  ids = if_yes (asked a m) (take a.count (drop a.start m.ids)) [];
}

-- ---- of each case of the code's answers, document 01's number and values

abbrev pub type_id_told : Result ℤ Refusal → TypeId
type_id_told (Ok id) = record { refusal = 0; id = id }
type_id_told (Err r) = record { refusal = refusal_number r; id = pos 0 }

abbrev pub value_offset_told : Result ℕ Refusal → ValueOffset
value_offset_told (Ok offset) = record { offset = offset; refusal = 0 }
value_offset_told (Err r) = record { offset = 0; refusal = refusal_number r }

abbrev pub child_told : Result Column Refusal → Child
child_told (Ok c) = record { column = c; refusal = 0 }
child_told (Err r) = record { column = no_column; refusal = refusal_number r }

abbrev pub type_names_told : Result code.TypeNames Refusal → TypeNames
type_names_told (Ok t) = record { names = t.names; count = t.count; refusal = 0 }
type_names_told (Err r) = no_type_names (refusal_number r)

abbrev pub flag_told : Result Bool Refusal → Flag
flag_told (Ok b) = record { refusal = 0; holds = b }
flag_told (Err r) = no_flag (refusal_number r)

abbrev pub type_ids_told : Result (Bor (List ℤ)) Refusal → Shown
type_ids_told (Ok ids) = record { refusal = 0; ids = ids.now }
type_ids_told (Err r) = record { refusal = refusal_number r; ids = [] }
