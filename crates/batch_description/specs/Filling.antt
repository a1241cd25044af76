-- Describing, in the steps of its functions: the name lengths, and the array with the first i of its columns filled in.
use Rattle.std.specs.Prelude.{List, ℕ, ◌*◌, ◌≤◌, ◌<◌, get_or, replicate}
use Rattle.bitmap.specs.Lists.{retable}
use Rattle.array_columns.specs.declared.Column.{Column}
use Rattle.union_array.specs.declared.UnionArray.{UnionArray}
use Rattle.array_columns.specs.Types.{no_column}
use Rattle.builder_columns.specs.declared.BuilderColumn.{BuilderColumn}
use Rattle.builder_columns.specs.Columns.{nth_column}
use Rattle.builder_columns.specs.declared.BuilderHead.{BuilderHead}
use Rattle.batch_description.specs.Description.{described_column, array_of}

-- the name lengths of the first n columns, in id order
unfoldable pub sizes_of : List BuilderColumn → ℕ → List ℕ
sizes_of cs n = retable n (λ k. (nth_column cs k).size) (replicate 128 0)

-- the columns, the first i of them filled in by the ids in order, for c slots
unfoldable pub filled_columns : List BuilderColumn → ℕ → List ℕ → ℕ → List Column
filled_columns cs c order i = retable i (λ j. described_column (nth_column cs (get_or order j 0)) (get_or order j 0) c) (replicate 128 no_column)

-- the builder's array with the first i columns filled in
abbrev pub filled_of : BuilderHead → List BuilderColumn → List ℕ → ℕ → UnionArray
filled_of h cs order i = array_of h.layout h.len h.count (filled_columns cs h.capacity order i)

-- a builder that can be filled in from: few columns and slots, and ids that are among its columns
pub record Fillable (h : BuilderHead) (order : List ℕ) : Type 0 where
  pub few : h.count ≤ 128
  pub small : h.capacity ≤ 65536
  pub ids : (i : ℕ) → i < h.count → get_or order i 0 < h.count

-- a builder that can be described from so many lent name bytes
pub record Describable (h : BuilderHead) (cs : List BuilderColumn) (bytes : ℕ) : Type 0 where
  pub few : h.count ≤ 128
  pub small : h.capacity ≤ 65536
  pub lent : 32 * h.count ≤ bytes
  pub short : (k : ℕ) → k < h.count → (nth_column cs k).size ≤ 32
