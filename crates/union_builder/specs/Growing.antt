-- The builder after a step of an append.
use Rattle.std.specs.Prelude.{cond, List, ℕ, eqb, set, Result, Ok, Err}
use Rattle.std.proofs.Math.Option.{none}
use Rattle.bitmap.specs.Lists.{retable}
use Rattle.array_columns.specs.declared.Refusal.{Refusal}
use Rattle.builder_columns.specs.declared.BuilderColumn.{BuilderColumn}
use Rattle.builder_columns.specs.Columns.{some_if, nth_column, grown}
use Rattle.builder_appends.specs.declared.Step.{Step}
use Rattle.union_builder.specs.Builder.{UnionBuilder, builder_with}

-- the first n columns with one slot more: the value in the step's column, a null in each other
abbrev pub row_after : List BuilderColumn → Step → ℕ → List BuilderColumn
row_after cs s n = retable n (λ k. grown (nth_column cs k) (cond (eqb s.id k) (some_if s.present 0) none)) cs

-- the builder with the step's column stored, and a slot more in its rows
unfoldable pub grown_by_step : UnionBuilder → Step → UnionBuilder
grown_by_step b s = builder_with b (row_after (set b.columns s.id s.column) s s.rows) s.len s.count

-- a refused append leaves the builder as it is
abbrev pub after_step : UnionBuilder → Result Step Refusal → UnionBuilder
after_step b (Ok s) = grown_by_step b s
after_step b (Err r) = b
