-- What the plan knows, and the append as planned. Assumes nothing.
use mathlib.Core.Path.{◌≡◌, ap, ◌∙◌}
use lib.ListN.{length}
use Rattle.std.specs.Prelude.{IfOk}
use Rattle.std.proofs.lemmas.Result.{IfOk-weaker}
use Rattle.array_columns.specs.Buffers.{Buffers, amounts_of, held}
use Rattle.array_columns.specs.Refusal.{number_of}
use Rattle.builder_columns.specs.Columns.{given}
use Rattle.builder_columns.specs.Planning.{PlanAnswer, plan_told}
use Rattle.builder_appends.specs.Steps.{plan_for, planned, append_by}
use Rattle.builder_appends.proofs.Asking.{open_searchable}
use Rattle.builder_appends.proofs.Planned.{Planned, planned_known}
use Rattle.builder_appends.proofs.Stepping.{planned_steppable}
use Rattle.builder_appends.proofs.steps.append_step.Goals as goal
use Rattle.builder_appends.proofs.steps.append_step.Goals.{After-plan-planned}

-- the plan by the names that are lent
plan_is : (c : After-plan-planned) → let a = c.args in plan_told c.plan-planned.result ≡ plan_for (number_of a.checked) a.h a.columns.now a.lent.now.names.now a.name.now a.kind
plan_is c =
    let a = c.args in
    let en : c.shared.inside.names.now ≡ a.lent.now.names.now = ap (λ (m : Buffers). m.names) (c.shared.view_is ∙ c.shared-shared.ensures) in
    rw en at c.plan-planned.ensures

known : (c : After-plan-planned) → IfOk c.plan-planned.result (λ p. Planned c.args.h c.args.columns.now p (length c.args.name.now) (amounts_of (held c.args.lent.now)))
known c =
    let a = c.args in
    planned_known (number_of a.checked) a.h a.columns.now (amounts_of (held a.lent.now)) a.lent.now.names.now a.name.now a.kind c.plan-planned.result c.requires (plan_is c)

pub plan-planned-requires : goal.plan-planned-requires
plan-planned-requires c =
    let a = c.args in
    let en : c.shared.inside.names.now ≡ a.lent.now.names.now = ap (λ (m : Buffers). m.names) (c.shared.view_is ∙ c.shared-shared.ensures) in
    rw en (λ e. open_searchable a.h a.columns.now (amounts_of (held a.lent.now)) (c.requires e))

pub carry_out-requires : goal.carry_out-requires
carry_out-requires c =
    let p = (goal.at.carry_out-requires c).After-plan-planned in
    IfOk-weaker c.plan-planned.result _ _ (λ x k. (k.writable, k.len, k.slots)) (known p)

pub returns-clause-steppable : goal.returns-clause-steppable
returns-clause-steppable c =
    let a = c.args in
    planned_steppable a.h a.columns.now c.plan-planned.result (length a.name.now) (amounts_of (held a.lent.now)) _ _ _ _ _ c.carry_out.ensures.after
    (known (goal.at.returns-clause-steppable c).After-plan-planned)

pub returns-clause-after : goal.returns-clause-after
unfolding append_by
returns-clause-after c =
    let a = c.args in
    c.carry_out.ensures.after ∙ ap (λ (q : PlanAnswer). planned a.h q a.name.now (given a.value) (held a.lent.now)) (plan_is (goal.at.returns-clause-after c).After-plan-planned)
