-- Each call on an array at the boundary.
use Rattle.std.specs.Prelude.{false, ℕ, ℤ, pos, replicate}
use Rattle.union_array.specs.declared.UnionArray.{UnionArray}
use Rattle.union_array.specs.Types.{no_column, no_array}
use Rattle.array_columns.specs.Buffers.{Buffers}
use Rattle.array_columns.specs.Refusal.{if_yes}
use Rattle.union_array.specs.Questions.{asked}
use Rattle.union_array.specs.Lookup.{Flag, try_new_of, no_value, value_of, type_id_of, value_offset_of, child_of, no_name, type_names_of, is_dense_of, is_nullable_of}
use Rattle.union_array.specs.Slices.{slice_of}
use Rattle.array_columns.specs.Numbers.{bad_number}
use Rattle.union_c.specs.declared.CArray.{CArray}
use Rattle.union_c.specs.declared.CValue.{CValue}
use Rattle.union_c.specs.declared.CTypeId.{CTypeId}
use Rattle.union_c.specs.declared.CValueOffset.{CValueOffset}
use Rattle.union_c.specs.declared.CChild.{CChild}
use Rattle.union_c.specs.declared.CTypeNames.{CTypeNames}
use Rattle.union_c.specs.declared.CFlag.{CFlag}
use Rattle.union_c.specs.declared.CSlice.{CSlice}
use Rattle.union_c.specs.declared.CPart.{CPart}
use Rattle.union_c.specs.Arrays.{array_from, is_array, value_to, flag_to, type_id_to, value_offset_to, child_to, type_names_to, slice_to}
use Rattle.union_ffi.specs.Boundary.{at_boundary}

-- "all other answer fields 0" where a number names no case
unfoldable pub c_try_new : CArray → Buffers → ℕ
c_try_new a m = at_boundary (is_array a) (try_new_of (array_from a) m) bad_number

unfoldable pub c_value : CArray → Buffers → ℕ → CValue
c_value a m i = value_to (at_boundary (is_array a) (value_of (array_from a) m i) (no_value bad_number))

unfoldable pub c_type_id : CArray → Buffers → ℕ → CTypeId
c_type_id a m i = type_id_to (at_boundary (is_array a) (type_id_of (array_from a) m i) (record { refusal = bad_number; id = pos 0 }))

unfoldable pub c_value_offset : CArray → Buffers → ℕ → CValueOffset
c_value_offset a m i = value_offset_to (at_boundary (is_array a) (value_offset_of (array_from a) m i) (record { offset = 0; refusal = bad_number }))

unfoldable pub c_child : CArray → Buffers → ℤ → CChild
c_child a m id = child_to (at_boundary (is_array a) (child_of (array_from a) m id) (record { column = no_column; refusal = bad_number }))

unfoldable pub c_type_names : CArray → Buffers → CTypeNames
c_type_names a m = type_names_to (at_boundary (is_array a) (type_names_of (array_from a) m) (record { names = replicate 128 no_name; count = 0; refusal = bad_number }))

abbrev pub no_flag : Flag
no_flag = record { refusal = bad_number; holds = false }

unfoldable pub c_is_dense : CArray → Buffers → CFlag
c_is_dense a m = flag_to (at_boundary (is_array a) (is_dense_of (array_from a) m) no_flag)

unfoldable pub c_is_nullable : CArray → Buffers → CFlag
c_is_nullable a m = flag_to (at_boundary (is_array a) (is_nullable_of (array_from a) m) no_flag)

-- where the shown type ids are: the array's own part of the lent ones
abbrev pub part_of : UnionArray → ℕ → CPart
part_of a n = record { start = if_yes n a.start 0; count = if_yes n a.count 0; refusal = n }

-- 1 to 6
abbrev pub c_asked : CArray → Buffers → ℕ
c_asked a m = at_boundary (is_array a) (asked (array_from a) m) bad_number

unfoldable pub c_type_ids : CArray → Buffers → CPart
c_type_ids a m = part_of (array_from a) (c_asked a m)

unfoldable pub c_slice : CArray → Buffers → ℕ → ℕ → CSlice
c_slice a m o n = slice_to (at_boundary (is_array a) (slice_of (array_from a) m o n) (record { array = no_array; refusal = bad_number }))
