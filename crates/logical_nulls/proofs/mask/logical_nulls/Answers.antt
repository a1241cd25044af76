use Rattle.std.proofs.Common.{refl, sym, ap, ◌∙◌, arith}
use Rattle.std.proofs.lemmas.Result.{err_from_is_err_and}
use Rattle.array_columns.specs.declared.Refusal.TheVariants.{MaskRoom}
use Rattle.null_strategy.specs.declared.Route.{Route}
use Rattle.null_strategy.specs.Route.{route_of}
use Rattle.null_strategy.proofs.Settings.{setting_refused, setting_taken}
use Rattle.logical_nulls.specs.Mask.{masked_by}
use Rattle.logical_nulls.proofs.Calls.{too_few, enough, mask_unchecked, mask_12, mask_13, mask_taken, mask_absent, fields_ok, counted_ok, mask_ready}
use Rattle.logical_nulls.proofs.mask.logical_nulls.Goals as goal

pub returns-in_err-check : goal.returns-in_err-check
returns-in_err-check c =
    let a = c.args in
    let p = err_from_is_err_and c.from_residual.result c.from_residual.ensures.1 in
    rw (p.1, p.2) (mask_unchecked a.array a.lent.now a.out.now a.cost c.in_err-check.field-0.0 c.in_err-check.ensures)

pub returns-in_err-processor : goal.returns-in_err-processor
returns-in_err-processor c =
    let a = c.args in
    let r = c.from_residual-in_err-processor in
    let refusal = c.in_err-processor.field-0.0 in
    let p = err_from_is_err_and r.result r.ensures.1 in
    rw (p.1, p.2) (mask_12 a.array a.lent.now a.out.now a.cost (sym c.in_ok-check.ensures) refusal (setting_refused a.cost refusal c.in_err-processor.ensures))

pub words_for-requires : goal.words_for-requires
words_for-requires c = omega (arith, counted_ok c.args.array c.args.lent.now (sym c.in_ok-check.ensures))

pub returns-then-out-words_for : goal.returns-then-out-words_for
returns-then-out-words_for c =
    let a = c.args in
    let w = c.words_for in
    let taken = setting_taken a.cost c.in_ok-processor.processor c.in_ok-processor.ensures in
    mask_13 a.array a.lent.now a.out.now a.cost (sym c.in_ok-check.ensures) taken.0 MaskRoom refl (too_few a.array a.lent.now a.out.now w.result w.ensures c.if-out-words_for.true)

pub of-fs-requires : goal.of-fs-requires
of-fs-requires c = fields_ok c.args.array c.args.lent.now (sym c.in_ok-check.ensures)

pub returns-then-is_absent : goal.returns-then-is_absent
returns-then-is_absent c =
    let a = c.args in
    let w = c.words_for in
    let taken = setting_taken a.cost c.in_ok-processor.processor c.in_ok-processor.ensures in
    let route = c.route_for-route.ensures a.lent.now c.of-fs.ensures ∙ ap (route_of a.array a.lent.now) (c.cost.ensures ∙ taken.1) in
    mask_absent a.array a.lent.now a.out.now c.route_for-route.result c.on.result (sym c.is_absent.ensures ∙ c.if-is_absent.true) c.on.ensures
    ∙ ap (λ (r : Route). masked_by a.array a.lent.now r a.out.now) route
    ∙ mask_taken a.array a.lent.now a.out.now a.cost (sym c.in_ok-check.ensures) taken.0 (enough a.array a.lent.now a.out.now w.result w.ensures c.if-out-words_for.false)

pub run_route-requires : goal.run_route-requires
run_route-requires c =
    let a = c.args in
    let w = c.words_for in
    let taken = setting_taken a.cost c.in_ok-processor.processor c.in_ok-processor.ensures in
    let route = c.route_for-route.ensures a.lent.now c.of-fs.ensures ∙ ap (route_of a.array a.lent.now) (c.cost.ensures ∙ taken.1) in
    mask_ready a.array c.of-fs.result a.lent.now a.out.now (sym c.in_ok-check.ensures) c.of-fs.ensures w.result w.ensures c.if-out-words_for.false a.cost
    c.route_for-route.result route (sym c.is_absent.ensures ∙ c.if-is_absent.false)

pub returns : goal.returns
returns c =
    let a = c.args in
    let w = c.words_for in
    let taken = setting_taken a.cost c.in_ok-processor.processor c.in_ok-processor.ensures in
    let route = c.route_for-route.ensures a.lent.now c.of-fs.ensures ∙ ap (route_of a.array a.lent.now) (c.cost.ensures ∙ taken.1) in
    c.run_route.ensures ∙ ap (λ (r : Route). masked_by a.array a.lent.now r a.out.now) route
    ∙ mask_taken a.array a.lent.now a.out.now a.cost (sym c.in_ok-check.ensures) taken.0 (enough a.array a.lent.now a.out.now w.result w.ensures c.if-out-words_for.false)
