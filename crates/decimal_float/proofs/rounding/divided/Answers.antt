use Rattle.std.proofs.Common.{arith}
use Rattle.decimal_float.proofs.DivisionLaws.{turns_left, turned_0, turned_1}
use Rattle.decimal_float.proofs.rounding.divided.Goals as goal
use Rattle.decimal_float.proofs.rounding.divided.Goals.{then-d-rest, else-d-rest}

pub loop-whole-preserved : goal.loop-whole-preserved
loop-whole-preserved c =
    let more = turns_left c.args.m c.args.d _ _ _ (omega arith) (omega arith) c.loop-whole.invariant c.loop-whole-test.true in
    elim c.if-d-rest.branch [
      | then-d-rest w ↦ turned_1 _ _ _ _ _ _ _ c.loop-whole.invariant c.loop-whole-test.true more w.if-d-rest.true w.whole-is w.rest-is
      | else-d-rest w ↦ turned_0 _ _ _ _ _ _ _ c.loop-whole.invariant c.loop-whole-test.true more w.if-d-rest.false w.whole-is w.rest-is
    ]
