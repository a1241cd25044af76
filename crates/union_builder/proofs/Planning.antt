-- Where an append goes, and the builder after it.
use mathlib.Core.Bool.{cond}
use mathlib.Core.Option.{Option, none, some}
use mathlib.Core.List.{List}
use Prim.Native.Nat.{ℕ, suc}
use lib.Dec.{eqb}
use Rattle.bitmap.specs.Lists.{retable}
use Rattle.array_columns.specs.declared.Kind.{Kind}
use Rattle.array_columns.specs.Types.{by_layout}
use Rattle.array_columns.specs.Buffers.{Buffers}
use Rattle.array_columns.specs.Refusal.{no, ◌then◌, if_yes}
use Rattle.union_names.specs.Names.{question17}
use Rattle.builder_columns.specs.Planning.{PlanAnswer, plan_of, plan_if}
use Rattle.builder_columns.specs.declared.BuilderColumn.{BuilderColumn}
use Rattle.union_builder.specs.Builder.{UnionBuilder, builder_with, column, known}
use Rattle.union_builder.specs.Append.{Appended, is_none, or_else, question18, question19, question20, append_checked, count_after, opened, column_after, builder_after, buffers_after, AppendOutcome, outcome, appended}
use Rattle.union_builder.proofs.Writing.{Plan}

-- the column at a place before its slot is added: a new name's is opened
abbrev pub column_at : UnionBuilder → Option ℕ → List ℕ → Kind → BuilderColumn
column_at b none name kind = opened name kind (by_layout b.layout b.len 0)
column_at b (some k) name kind = column b k

-- an append to a place
abbrev pub planned_at : UnionBuilder → Option ℕ → List ℕ → Kind → Plan
planned_at b at name kind =
    plan_of (column_at b at name kind) (or_else at b.count) (count_after at b.count) (is_none at)

abbrev pub plan_by : ℕ → UnionBuilder → Option ℕ → List ℕ → Kind → PlanAnswer
plan_by n b at name kind = plan_if n (record { plan = planned_at b at name kind; refusal = 0 })

-- questions 18 to 20
abbrev pub rest_checked : UnionBuilder → Option ℕ → Kind → ℕ
rest_checked b at kind = no 18 (question18 b kind at) then no 19 (question19 b) then no 20 (question20 b at)

-- all questions of an append, where n is the first no that `open_checked` gives and `at` is the column that has the name
abbrev pub all_checked : ℕ → UnionBuilder → Option ℕ → List ℕ → Kind → ℕ
all_checked n b at name kind = n then no 17 (question17 name) then rest_checked b at kind

unfoldable pub plan_asked : ℕ → UnionBuilder → Option ℕ → List ℕ → Kind → PlanAnswer
plan_asked n b at name kind = plan_by (all_checked n b at name kind) b at name kind

-- the builder after an append as planned, of a value or a null
unfoldable pub grown_as : UnionBuilder → Plan → Option ℕ → UnionBuilder
grown_as b p v =
    builder_with b (retable p.count (λ k. column_after b.layout (cond (eqb k p.id) p.column (column b k)) p.id v k) b.columns) (suc b.len)
    p.count

-- what an append as planned answers
abbrev pub answer_by : UnionBuilder → PlanAnswer → Option ℕ → Appended
answer_by b p v = appended (if_yes p.refusal (grown_as b p.plan v) b) p.refusal

-- an append of a value that is cut already, or of none
unfoldable pub appended_of : UnionBuilder → Buffers → List ℕ → Kind → Option ℕ → AppendOutcome
appended_of b m name kind v =
    let at = known b m name in
    let n = append_checked b m name kind in
    outcome (appended (if_yes n (builder_after b at name kind v) b) n) (if_yes n (buffers_after b m at name v) m)
