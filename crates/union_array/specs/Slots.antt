-- A slot's child and its slot in it, and whether it is null (Format, union layout). Columns by id and presence are those of array_columns.
use Rattle.std.specs.Prelude.{Bool, List, ℕ, ◌+◌, ℤ, pos, nat_abs, get_or, take}
use Rattle.std.proofs.Math.Option.{Option}
use Rattle.union_array.specs.Types.{Column, UnionArray, by_layout}
use Rattle.array_columns.specs.Buffers.{Buffers}
pub use Rattle.array_columns.specs.Slots.{all, column_of, is_some, null_in}
unfoldable pub use Rattle.array_columns.specs.Slots.{present, presence_chunk, nulls_in}

-- the columns in use: one to a field, in list order
abbrev pub in_use : UnionArray → List Column
in_use a = take a.fields a.columns

-- slot i's type id
abbrev pub type_id_at : UnionArray → Buffers → ℕ → ℤ
type_id_at a m i = get_or m.ids (a.start + i) (pos 0)

-- slot i's offset
abbrev pub offset_at : UnionArray → Buffers → ℕ → ℤ
offset_at a m i = get_or m.offsets (a.offsets_start + i) (pos 0)

-- the child that slot i's type id names
abbrev pub child_at : UnionArray → Buffers → ℕ → Option Column
child_at a m i = column_of (in_use a) (type_id_at a m i)

-- "Sparse slot i is slot i of its child; dense slot i is slot offsets[i] of it" (8 refuses an offset below 0)
abbrev pub slot_at : UnionArray → Buffers → ℕ → ℕ
slot_at a m i = by_layout a.layout i (nat_abs (offset_at a m i))

-- "slot i's child slot is null"
unfoldable pub slot_null : UnionArray → Buffers → ℕ → Bool
slot_null a m i = null_in (child_at a m i) m (slot_at a m i)
