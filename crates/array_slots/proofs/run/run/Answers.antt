use Rattle.std.proofs.Common.{sym, ◌∙◌, ◌+◌}
use borrow.Author.Tests.{leb-true}
use Rattle.std.proofs.lemmas.Result.{err_from_is_err_and}
use Rattle.array_slots.proofs.Runs.{run_slot, run_accepted, run_written}
use Rattle.array_slots.proofs.run.run.Goals as goal

pub returns-in_err-check : goal.returns-in_err-check
returns-in_err-check c =
    let a = c.args in
    let p = err_from_is_err_and c.from_residual.result c.from_residual.ensures.1 in
    rw (p.1, p.2)
    (run_slot a.h a.columns.now a.lent.now a.first a.n a.ids.now a.missing.now a.bits.now (sym c.part_in.ensures ∙ c.if-not-part_in.false) _ c.in_err-check.ensures)

pub write-requires-clause-accepted : goal.write-requires-clause-accepted
write-requires-clause-accepted c =
    let a = c.args in
    run_accepted a.h a.columns.now a.lent.now a.first a.n c.requires (leb-true (a.first + a.n) a.h.count (sym c.part_in.ensures ∙ c.if-not-part_in.false)) (sym c.in_ok-check.ensures)

pub returns : goal.returns
returns c =
    let a = c.args in
    run_written a.h a.columns.now a.lent.now a.first a.n a.ids.now a.missing.now a.bits.now (sym c.part_in.ensures ∙ c.if-not-part_in.false) c.in_ok-check.ensures
    (sym c.has_room.ensures ∙ c.if-not-has_room.false) _ _ _ c.write.ensures.ids_after c.write.ensures.missing_after c.write.ensures.bits_after
