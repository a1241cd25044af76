-- Questions 1 to 11 of document 01, each as a test, with 01's sentence above it.
use Rattle.std.specs.Prelude.{Bool, true, ◌&&◌, ℕ, ◌+◌, eqb, leb, ltb, ℤ}
use Rattle.bitmap.specs.Lists.{every}
use Rattle.union_array.specs.Types.{UnionArray, Amounts, by_layout}
use Rattle.array_columns.specs.Buffers.{Buffers, amounts_of}
use Rattle.array_columns.specs.Refusal.{no, ◌then◌}
use Rattle.union_array.specs.Slots.{in_use, all, column_of, is_some, offset_at, child_at}
pub use Rattle.array_columns.specs.Questions.{valid_id, distinct, part_in, mask_in, within, within_child}
unfoldable pub use Rattle.array_columns.specs.Questions.{presence_in, column_in}

-- 1. At most 128 fields, ids 0 to 127, none twice?
unfoldable pub question1 : UnionArray → Bool
question1 a = leb a.fields 128 && (all (λ c. valid_id c.id) (in_use a) && distinct (in_use a))

-- 2. As many children as fields?
abbrev pub question2 : UnionArray → Bool
question2 a = eqb a.children a.fields

-- 3. Do all named parts lie in lent memory, names at most 32 bytes? ("a sparse one names no offsets")
unfoldable pub question3 : UnionArray → Amounts → Bool
question3 a lent =
    part_in a.start a.count lent.ids
    && (by_layout a.layout true (part_in a.offsets_start a.offsets_count lent.offsets) && all (column_in lent) (in_use a))

-- 4. Are the type id count and each child's slots at most 65,536?
unfoldable pub question4 : UnionArray → Bool
question4 a = leb a.count 65536 && all (λ c. leb c.slots 65536) (in_use a)

-- 5. Dense: offset count equal to type id count?
unfoldable pub question5 : UnionArray → Bool
question5 a = by_layout a.layout true (eqb a.offsets_count a.count)

-- 6. Sparse: each child's slots equal to it?
unfoldable pub question6 : UnionArray → Bool
question6 a = by_layout a.layout (all (λ c. eqb c.slots a.count) (in_use a)) true

-- slot i's type id names a field
abbrev pub named_at : UnionArray → Buffers → ℕ → Bool
named_at a m i = is_some (child_at a m i)

-- 7. Does each type id name a field?
unfoldable pub question7 : UnionArray → Buffers → Bool
question7 a m = every a.count (named_at a m)

-- slot i's offset, if dense, is at least 0 and below its child's slots
abbrev pub offset_fits : UnionArray → Buffers → ℕ → Bool
offset_fits a m i = by_layout a.layout true (within_child (offset_at a m i) (child_at a m i))

-- 8. Dense: each offset at least 0 and below its child's slots?
unfoldable pub question8 : UnionArray → Buffers → Bool
question8 a m = every a.count (offset_fits a m)

-- 9. Slice: o + n at most the count?
abbrev pub question9 : UnionArray → ℕ → ℕ → Bool
question9 a o n = leb (o + n) a.count

-- 10. Index below the count?
abbrev pub question10 : UnionArray → ℕ → Bool
question10 a i = ltb i a.count

-- 11. Does the given id name a field?
abbrev pub question11 : UnionArray → ℤ → Bool
question11 a id = is_some (column_of (in_use a) id)

-- "Every call on a batch asks 1 to 6"
unfoldable pub asked : UnionArray → Buffers → ℕ
asked a m =
    no 1 (question1 a)
    then no 2 (question2 a)
    then no 3 (question3 a (amounts_of m))
    then no 4 (question4 a)
    then no 5 (question5 a)
    then no 6 (question6 a)

-- 1 to 6, then 7 and 8 of every slot
unfoldable pub checked : UnionArray → Buffers → ℕ
checked a m = asked a m then no 7 (question7 a m) then no 8 (question8 a m)

-- "a slot lookup (value, type_id, value_offset) then 10, and 7 and 8 for its slot only"
unfoldable pub slot_checked : UnionArray → Buffers → ℕ → ℕ
slot_checked a m i = asked a m then no 10 (question10 a i) then no 7 (named_at a m i) then no 8 (offset_fits a m i)
