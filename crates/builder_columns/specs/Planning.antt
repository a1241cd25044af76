-- Questions 18 to 20 once a name was looked for, and where the append goes.
use Rattle.std.specs.Prelude.{Bool, true, false, cond, List, ℕ, suc, ltb, Result, Ok, Err}
use Rattle.array_columns.specs.declared.Kind.{Kind}
use Rattle.array_columns.specs.Types.{by_layout, same_kind}
use Rattle.array_columns.specs.Refusal.{no, ◌then◌, if_yes, refusal_number}
use Rattle.array_columns.specs.declared.Refusal.{Refusal}
use Rattle.builder_columns.specs.Columns.{BuilderColumn, no_builder_column, opened}
use Rattle.builder_columns.specs.Writing.{BuilderHead, Plan}
use Rattle.builder_columns.specs.Finding.{Found}

-- ---- whatever lists all fields of a plan

-- an append to a column with an id, with so many columns after
abbrev pub plan_of : BuilderColumn → ℕ → ℕ → Bool → Plan
plan_of c id count fresh = record { column = c; id = id; count = count; fresh = fresh }

-- a plan, and the number of the first no
pub record PlanAnswer : Type 0 where
  pub plan : Plan
  pub refusal : ℕ

-- a plan that is refused: zeros
abbrev pub refused_plan : ℕ → PlanAnswer
refused_plan n = record { plan = plan_of no_builder_column 0 0 false; refusal = n }

abbrev pub accepted_plan : BuilderColumn → ℕ → ℕ → Bool → PlanAnswer
accepted_plan c id count fresh = record { plan = plan_of c id count fresh; refusal = 0 }

-- the code's plan
abbrev pub plan_told : Result Plan Refusal → PlanAnswer
plan_told (Ok p) = record { plan = p; refusal = 0 }
plan_told (Err r) = refused_plan (refusal_number r)

-- ---- the plan once the name was looked for

-- a plan by the number of the first no
abbrev pub plan_if : ℕ → PlanAnswer → PlanAnswer
plan_if n p = if_yes n p (refused_plan n)

-- 18 to 20 once the name was looked for, and where the append goes
unfoldable pub found_plan : BuilderHead → Found → List ℕ → Kind → PlanAnswer
found_plan h f name kind =
    cond f.known (plan_if (no 18 (same_kind f.column.kind kind) then no 19 (ltb h.len h.capacity))
    (accepted_plan f.column f.id h.count false))
    (plan_if (no 19 (ltb h.len h.capacity) then no 20 (ltb h.count h.limit))
    (accepted_plan (opened name kind (by_layout h.layout h.len 0)) h.count (suc h.count) true))
