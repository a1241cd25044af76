-- A slot over an array's head, its column list and the lent type ids and offsets: its child, its slot in it, and what 7 and 8 answer of it.
use Rattle.std.specs.Prelude.{Bool, true, List, ℕ, ◌+◌, ℤ, pos, nat_abs, get_or, take}
use Rattle.std.proofs.Math.Option.{Option}
use Rattle.array_slots.specs.Types.{Column, Head, by_layout}
use Rattle.array_columns.specs.Refusal.{no, ◌then◌}
use Rattle.array_columns.specs.Slots.{column_of, is_some}
use Rattle.array_columns.specs.Questions.{within_child}

-- the columns in use: one to a field, in list order
abbrev pub used : Head → List Column → List Column
used h columns = take h.fields columns

-- slot i's type id
abbrev pub id_at : Head → List ℤ → ℕ → ℤ
id_at h ids i = get_or ids (h.start + i) (pos 0)

-- slot i's offset
abbrev pub offset_at : Head → List ℤ → ℕ → ℤ
offset_at h offsets i = get_or offsets (h.offsets_start + i) (pos 0)

-- the child that slot i's type id names
abbrev pub child_at : Head → List Column → List ℤ → ℕ → Option Column
child_at h columns ids i = column_of (used h columns) (id_at h ids i)

-- "Sparse slot i is slot i of its child; dense slot i is slot offsets[i] of it" (8 refuses an offset below 0)
abbrev pub slot_at : Head → List ℤ → ℕ → ℕ
slot_at h offsets i = by_layout h.layout i (nat_abs (offset_at h offsets i))

-- slot i's type id names a field
abbrev pub named_at : Head → List Column → List ℤ → ℕ → Bool
named_at h columns ids i = is_some (child_at h columns ids i)

-- slot i's offset is at least 0 and below its child's slots
abbrev pub within_at : Head → List Column → List ℤ → List ℤ → ℕ → Bool
within_at h columns ids offsets i = within_child (offset_at h offsets i) (child_at h columns ids i)

-- that is asked of a dense slot only
abbrev pub fits_at : Head → List Column → List ℤ → List ℤ → ℕ → Bool
fits_at h columns ids offsets i = by_layout h.layout true (within_at h columns ids offsets i)

-- 7 and 8 of slot i
abbrev pub slot_no : Head → List Column → List ℤ → List ℤ → ℕ → ℕ
slot_no h columns ids offsets i = no 7 (named_at h columns ids i) then no 8 (fits_at h columns ids offsets i)
