use Rattle.std.proofs.Common.{refl, sym, ap, ◌∙◌, arith}
use Rattle.std.proofs.lemmas.Result.{err_from_is_err_and}
use Rattle.array_columns.specs.declared.Refusal.TheVariants.{MaskRoom, StrategyNotAllowed}
use Rattle.null_strategy.specs.declared.Route.{Route}
use Rattle.logical_nulls.specs.Mask.{masked_by}
use Rattle.logical_nulls.proofs.Calls.{too_few, enough, strategy_unchecked, strategy_14, strategy_13, strategy_taken, fields_ok, counted_ok, may_run_lem, strategy_ready}
use Rattle.logical_nulls.proofs.named.run_strategy.Goals as goal

pub returns-in_err-check : goal.returns-in_err-check
returns-in_err-check c =
    let a = c.args in
    let p = err_from_is_err_and c.from_residual.result c.from_residual.ensures.1 in
    rw (p.1, p.2) (strategy_unchecked a.array a.lent.now a.out.now a.strategy c.in_err-check.field-0.0 c.in_err-check.ensures)

pub of-fs-requires : goal.of-fs-requires
of-fs-requires c = fields_ok c.args.array c.args.lent.now (sym c.in_ok-check.ensures)

pub returns-then-not-may_run : goal.returns-then-not-may_run
returns-then-not-may_run c =
    let a = c.args in
    let asked = sym (c.may_run.ensures ∙ may_run_lem a.array c.of-fs.result a.lent.now a.strategy c.of-fs.ensures) in
    strategy_14 a.array a.lent.now a.out.now a.strategy (sym c.in_ok-check.ensures) StrategyNotAllowed refl (asked ∙ c.if-not-may_run.true)

pub words_for-requires : goal.words_for-requires
words_for-requires c = omega (arith, counted_ok c.args.array c.args.lent.now (sym c.in_ok-check.ensures))

pub returns-then-out-words_for : goal.returns-then-out-words_for
returns-then-out-words_for c =
    let a = c.args in
    let w = c.words_for in
    let asked = sym (c.may_run.ensures ∙ may_run_lem a.array c.of-fs.result a.lent.now a.strategy c.of-fs.ensures) in
    strategy_13 a.array a.lent.now a.out.now a.strategy (sym c.in_ok-check.ensures) (asked ∙ c.if-not-may_run.false) MaskRoom refl
    (too_few a.array a.lent.now a.out.now w.result w.ensures c.if-out-words_for.true)

pub run_route-requires : goal.run_route-requires
run_route-requires c =
    let a = c.args in
    let w = c.words_for in
    let asked = sym (c.may_run.ensures ∙ may_run_lem a.array c.of-fs.result a.lent.now a.strategy c.of-fs.ensures) in
    strategy_ready a.array c.of-fs.result a.lent.now a.out.now (sym c.in_ok-check.ensures) c.of-fs.ensures w.result w.ensures c.if-out-words_for.false a.strategy
    c.from.result c.from.ensures (asked ∙ c.if-not-may_run.false)

pub returns : goal.returns
returns c =
    let a = c.args in
    let w = c.words_for in
    let asked = sym (c.may_run.ensures ∙ may_run_lem a.array c.of-fs.result a.lent.now a.strategy c.of-fs.ensures) in
    c.run_route.ensures ∙ ap (λ (r : Route). masked_by a.array a.lent.now r a.out.now) c.from.ensures
    ∙ strategy_taken a.array a.lent.now a.out.now a.strategy (sym c.in_ok-check.ensures) (asked ∙ c.if-not-may_run.false)
    (enough a.array a.lent.now a.out.now w.result w.ensures c.if-out-words_for.false)
