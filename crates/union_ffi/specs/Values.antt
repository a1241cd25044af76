-- A run of lookups at the boundary.
use Rattle.std.specs.Prelude.{List, ℕ, ℤ}
use Rattle.array_columns.specs.Buffers.{Buffers}
use Rattle.array_columns.specs.Numbers.{bad_number}
use Rattle.union_array.specs.Values.{Values, values_answer, values_of}
use Rattle.union_c.specs.declared.CArray.{CArray}
use Rattle.union_c.specs.Arrays.{is_array, array_from}
use Rattle.union_ffi.specs.Boundary.{at_boundary}

unfoldable pub c_values : CArray → Buffers → ℕ → ℕ → List ℤ → List ℕ → List ℕ → Values
c_values a m first n ids missing bits = at_boundary (is_array a) (values_of (array_from a) m first n ids missing bits) (values_answer bad_number ids missing bits)
