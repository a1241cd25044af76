-- The null mask at the boundary: the answer, and the lent words at exit.
use Rattle.std.specs.Prelude.{◌&&◌, List, ℕ, Result}
use Rattle.array_columns.specs.Buffers.{Buffers}
use Rattle.array_columns.specs.declared.Refusal.{Refusal}
use Rattle.array_columns.specs.Numbers.{bad_number}
use Rattle.union_array.specs.declared.UnionArray.{UnionArray}
use Rattle.logical_nulls.specs.declared.SparseStrategy.{SparseStrategy}
use Rattle.logical_nulls.specs.Mask.{Masked, logical_nulls_of, strategy_of, not_masked}
use Rattle.union_c.specs.declared.CArray.{CArray}
use Rattle.union_c.specs.declared.CNulls.{CNulls}
use Rattle.union_c.specs.Numbers.{named}
use Rattle.union_c.specs.Arrays.{array_from, is_array}
use Rattle.union_c.specs.Nulls.{strategy_from, is_strategy, nulls_to}
use Rattle.union_ffi.specs.Boundary.{at_boundary}

-- the answer, and the lent words at exit
pub record CMasked : Type 0 where
  pub answer : CNulls
  pub out : List ℕ

abbrev pub c_masked : CNulls → List ℕ → CMasked
c_masked answer out = record { answer = answer; out = out }

abbrev pub masked_to : Masked → CMasked
masked_to r = c_masked (nulls_to r.answer) r.out

unfoldable pub c_logical_nulls : CArray → Buffers → ℕ → List ℕ → CMasked
c_logical_nulls a m cost out = masked_to (at_boundary (is_array a) (logical_nulls_of (array_from a) m cost out) (not_masked bad_number out))

-- the array and the strategy that a caller names, or the refusal
abbrev pub run_named : CArray → ℕ → Result (UnionArray × SparseStrategy) Refusal
run_named a s = named (λ c. is_array c && is_strategy s) (λ c. (array_from c, strategy_from s)) a

unfoldable pub c_strategy : CArray → Buffers → ℕ → List ℕ → CMasked
c_strategy a m s out = masked_to (at_boundary (is_array a && is_strategy s) (strategy_of (array_from a) m (strategy_from s) out) (not_masked bad_number out))
