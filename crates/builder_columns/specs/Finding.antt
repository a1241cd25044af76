-- Which column has a name, as it is looked for.
use Rattle.std.specs.Prelude.{Bool, true, false, List, ℕ, ◌*◌, ◌≤◌, ◌<◌, Some, None}
use Rattle.std.proofs.Math.Option.{Option, none, some}
use Rattle.builder_columns.specs.Columns.{BuilderColumn, no_builder_column, nth_column}
use Rattle.builder_columns.specs.declared.Found as code
use Rattle.std.specs.declared.option.Option as given

-- the names of the first n columns can be compared: 32 bytes are lent to each
pub record Searchable (cs : List BuilderColumn) (n bytes : ℕ) : Type 0 where
  pub few : n ≤ 128
  pub sizes : (k : ℕ) → k < n → (nth_column cs k).size ≤ 32
  pub names : 32 * n ≤ bytes

-- a column with its id, and whether there is one
pub record Found : Type 0 where
  pub column : BuilderColumn
  pub id : ℕ
  pub known : Bool

-- no column has the name
abbrev pub nothing : Found
nothing = record { column = no_builder_column; id = 0; known = false }

abbrev pub found_at : ℕ → BuilderColumn → Found
found_at k c = record { column = c; id = k; known = true }

-- the column at a place
abbrev pub found_in : List BuilderColumn → Option ℕ → Found
found_in cs none = nothing
found_in cs (some k) = found_at k (nth_column cs k)

-- what the code found
abbrev pub found_told : given.Option code.Found → Found
found_told None = nothing
found_told (Some f) = found_at f.id f.column
