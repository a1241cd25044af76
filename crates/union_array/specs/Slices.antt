-- "A slice (o, n) moves the start of type ids by o and sets count n".
use Rattle.std.specs.Prelude.{cond, ◌++◌, map, ℕ, ◌+◌, ◌/◌, ◌%◌, drop, Result, Ok, Err}
use Rattle.union_array.specs.Types.{Layout, Sparse, Dense, Column, UnionArray, with_slots, no_array, narrowed, relisted}
use Rattle.array_columns.specs.Buffers.{Buffers}
use Rattle.array_columns.specs.Refusal.{no, ◌then◌, if_yes}
use Rattle.union_array.specs.Slots.{in_use}
use Rattle.union_array.specs.Questions.{asked, question9}
use Rattle.array_columns.specs.declared.Refusal.{Refusal}
use Rattle.array_columns.specs.Refusal.{refusal_number}

-- "dense .. keeps children, sparse moves each child's words and mask bits and sets its slots to n"; an absent mask has no place to move
abbrev pub moved_column : Layout → ℕ → ℕ → Column → Column
moved_column Dense o n c = c
moved_column Sparse o n c =
    with_slots (c.values + o) (cond c.masked (c.mask + (c.bit + o) / 64) c.mask) (cond c.masked ((c.bit + o) % 64) c.bit) n c

-- slots o to o + n - 1: type ids and offsets moved, and each child in use
unfoldable pub sliced : UnionArray → ℕ → ℕ → UnionArray
sliced a o n = relisted (narrowed a.layout o n a) (map (moved_column a.layout o n) (in_use a) ++ drop a.fields a.columns)

-- slice: asks 1 to 6, then 9
unfoldable pub slice_checked : UnionArray → Buffers → ℕ → ℕ → ℕ
slice_checked a m o n = asked a m then no 9 (question9 a o n)

-- what slice answers, in document 01's numbers
pub record Slice : Type 0 where
  pub array : UnionArray
  pub refusal : ℕ

-- slice: the sliced description; refused, "all other answer fields 0"
unfoldable pub slice_of : UnionArray → Buffers → ℕ → ℕ → Slice
slice_of a m o n = record { array = if_yes (slice_checked a m o n) (sliced a o n) no_array; refusal = slice_checked a m o n }

-- of each case of the code's answer, document 01's number and values
abbrev pub slice_told : Result UnionArray Refusal → Slice
slice_told (Ok a) = record { array = a; refusal = 0 }
slice_told (Err r) = record { array = no_array; refusal = refusal_number r }
