-- The order in which an array lists its columns, stated without the sort that makes it. A text in quotes is document 01's.
use Rattle.std.specs.Prelude.{◌≡◌, ◌⊎◌, List, [], ◌∷◌, ℕ, ◌<◌, nat_abs, get_or, take, drop}
use Rattle.array_columns.specs.declared.Column.{Column}
use Rattle.union_array.specs.declared.UnionArray.{UnionArray}
use Rattle.union_array.specs.Types.{no_column}
use Rattle.array_columns.specs.Buffers.{Buffers}
use Rattle.union_builder.specs.declared.UnionBuilder.{UnionBuilder}
use Rattle.union_builder.specs.Finish.{finish_cloned_of, finish_of}

-- "compared and finished columns ordered by bytes": a name comes before another if it begins it, or has the lesser byte where they first differ
pub data NameBefore : List ℕ → List ℕ → Type 0 where
  begins : {y : ℕ} {ys : List ℕ} → NameBefore [] (y ∷ ys)
  lesser : {x y : ℕ} {xs ys : List ℕ} → x < y → NameBefore (x ∷ xs) (y ∷ ys)
  alike : {x : ℕ} {xs ys : List ℕ} → NameBefore xs ys → NameBefore (x ∷ xs) (x ∷ ys)

-- a column's name in lent memory
abbrev pub name_in : Buffers → Column → List ℕ
name_in m c = take c.size (drop c.name m.names)

-- by name, and "of equal names .. the lower id is listed first"
abbrev pub ListedBefore : Buffers → Column → Column → Type 0
ListedBefore m c d = NameBefore (name_in m c) (name_in m d) ⊎ ((name_in m c ≡ name_in m d) × (nat_abs c.id < nat_abs d.id))

-- each column in use is listed before every later one
abbrev pub InOrder : UnionArray → Buffers → Type 0
InOrder a m = (i j : ℕ) → i < j → j < a.fields → ListedBefore m (get_or a.columns i no_column) (get_or a.columns j no_column)

-- whatever a builder finishes is listed in order, "a builder that append did not make" included
unfoldable pub FinishedInOrder : Type 0
FinishedInOrder = (b : UnionBuilder) (m : Buffers) → (finish_cloned_of b m).refusal ≡ 0 → InOrder (finish_cloned_of b m).array m × InOrder (finish_of b m).array m
