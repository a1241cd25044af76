-- Kinds, layouts and flags as numbers, as runs and C callers hand them over. `kind_number` is in Types.antt.
use Rattle.std.specs.Prelude.{Bool, cond, ℕ, eqb, ltb, Result, Ok, Err}
use Rattle.array_columns.specs.Types.{Kind, Int8, Int16, Int32, Int64, UInt8, UInt16, UInt32, UInt64, Float32, Float64, Layout, Sparse, Dense, by_layout}
use Rattle.array_columns.specs.Refusal.{Refusal, UnknownNumber}

-- the kind with the number (`kind_number` is the way back)
abbrev pub kind_from : ℕ → Kind
kind_from n =
    cond (eqb n 1) Int16 (cond (eqb n 2) Int32 (cond (eqb n 3) Int64 (cond (eqb n 4) UInt8 (cond (eqb n 5) UInt16
    (cond (eqb n 6) UInt32 (cond (eqb n 7) UInt64 (cond (eqb n 8) Float32 (cond (eqb n 9) Float64 Int8))))))))

-- the number names a kind
abbrev pub is_kind : ℕ → Bool
is_kind n = ltb n 10

-- that kind, or the refusal of a number that names none
abbrev pub kind_named : ℕ → Result Kind Refusal
kind_named n = cond (is_kind n) (Ok (kind_from n)) (Err UnknownNumber)

-- the layout with the number: "For a layout 0 is sparse", 1 is dense
abbrev pub layout_from : ℕ → Layout
layout_from n = cond (eqb n 1) Dense Sparse

-- a layout's number
abbrev pub layout_number : Layout → ℕ
layout_number l = by_layout l 0 1

-- the number names a layout
abbrev pub is_layout : ℕ → Bool
is_layout n = ltb n 2

-- the flag with the number: 0 does not hold, 1 holds
abbrev pub flag_from : ℕ → Bool
flag_from n = eqb n 1

-- the number names a flag
abbrev pub is_flag : ℕ → Bool
is_flag n = ltb n 2

-- a refusal beside document 01's: a number that names no kind, layout, flag or strategy; of a reading in a run, a name outside its text too
abbrev pub bad_number : ℕ
bad_number = 128

-- a refusal beside document 01's: a slice does not have the length that a run wants
abbrev pub bad_length : ℕ
bad_length = 129
