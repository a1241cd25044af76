-- The states of an array's fields, as the code holds them.
use Rattle.std.specs.Prelude.{◌≡◌, Bool, true, false, cond, List, ℕ, get_or, take, replicate}
use Rattle.bitmap.specs.Lists.{retable}
use Rattle.array_columns.specs.declared.Column.{Column}
use Rattle.union_array.specs.declared.UnionArray.{UnionArray}
use Rattle.union_array.specs.Types.{no_column}
use Rattle.array_columns.specs.Buffers.{Buffers}
use Rattle.null_strategy.specs.Route.{has_null, fully_null, with_nulls, fully_nulls}
pub use Rattle.null_strategy.specs.declared.State.{State}
pub use Rattle.null_strategy.specs.declared.State.TheVariants.{NoNull, SomeNull, FullyNull}
pub use Rattle.null_strategy.specs.declared.Fields.{Fields}

-- a child of this state has a null
abbrev pub has_nulls : State → Bool
has_nulls NoNull = false
has_nulls SomeNull = true
has_nulls FullyNull = true

-- and is fully null
abbrev pub only_nulls : State → Bool
only_nulls NoNull = false
only_nulls SomeNull = false
only_nulls FullyNull = true

-- the state of a column's child
unfoldable pub state_of : Buffers → Column → State
state_of m c = cond (has_null m c) (cond (fully_null m c) FullyNull SomeNull) NoNull

-- that of column q of a list
abbrev pub state_at : Buffers → List Column → ℕ → State
state_at m cs q = state_of m (get_or cs q no_column)

-- 128 children without a null
unfoldable pub no_states : List State
no_states = replicate 128 NoNull

-- the states of an array's fields, N, M and F
abbrev pub fields_of : UnionArray → Buffers → Fields
fields_of a m = record { states = retable a.fields (state_at m a.columns) no_states; count = a.fields; some = with_nulls a m; full = fully_nulls a m }

-- the states in use
abbrev pub in_list : Fields → List State
in_list fs = take fs.count fs.states

-- the states are those of an array's fields
pub record Described (a : UnionArray) (fs : Fields) : Type 0 where
  pub buffers : Buffers
  pub fields : fs ≡ fields_of a buffers
