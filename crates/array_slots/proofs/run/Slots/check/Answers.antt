use Rattle.std.proofs.Common.{rules, sym, ◌∙◌}
use Rattle.array_slots.proofs.Runs.{run_seven, run_eight, run_on}
use Rattle.array_slots.proofs.run.Slots.check.Goals as goal

pub returns-in_default : goal.returns-in_default
returns-in_default c =
    let s = c.args.self.now in
    let m = c.lent.view_is in
    rw (← m)
    (run_seven s.head s.columns.now _ _ s.first s.n c.loop-k.k c.loop-k-test.true (search rules) (rw (← m) at c.loop-k.invariant) c.in_default.ensures)

pub returns-then-not-offset_fits : goal.returns-then-not-offset_fits
returns-then-not-offset_fits c =
    let s = c.args.self.now in
    let m = c.lent.view_is in
    rw (← m)
    (run_eight s.head s.columns.now _ _ s.first s.n c.loop-k.k c.loop-k-test.true (search rules) (rw (← m) at c.loop-k.invariant) c.in-Some.c c.in-Some.ensures
    (sym c.offset_fits.ensures ∙ c.if-not-offset_fits.true))

pub loop-k-preserved : goal.loop-k-preserved
loop-k-preserved c =
    let s = c.args.self.now in
    let m = c.lent.view_is in
    rw (← m)
    (run_on s.head s.columns.now _ _ s.first s.n c.loop-k.k c.loop-k-test.true (search rules) (rw (← m) at c.loop-k.invariant) c.in-Some.c c.in-Some.ensures
    (sym c.offset_fits.ensures ∙ c.if-not-offset_fits.false))
