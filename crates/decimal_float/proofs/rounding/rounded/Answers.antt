use Rattle.std.proofs.Common.{arith}
use Rattle.std.specs.Cmp.{ranked}
use Rattle.decimal_float.proofs.DivisionLaws.{rounds_down, rounds_up, rounds_past, rounds_tie}
use Rattle.decimal_float.proofs.rounding.rounded.Goals as goal

pub returns-in-Less : goal.returns-in-Less
returns-in-Less c =
    rounds_down c.args.q.whole c.args.q.rest c.args.drop (omega arith) (omega arith) (ranked _ _ _ c.in-Less.ensures)

pub returns-in-Greater : goal.returns-in-Greater
returns-in-Greater c =
    rounds_up c.args.q.whole c.args.q.rest c.args.drop (omega arith) (omega arith) (ranked _ _ _ c.in-Greater.ensures)

pub returns-in-Equal : goal.returns-in-Equal
returns-in-Equal c =
    rounds_past c.args.q.whole c.args.q.rest c.args.drop (omega arith) (omega arith) (ranked _ _ _ c.in-Equal.ensures) c.if-q-ne0.true

pub returns-in-Equal-2 : goal.returns-in-Equal-2
returns-in-Equal-2 c =
    rounds_tie c.args.q.whole c.args.q.rest c.args.drop (omega arith) (omega arith) (ranked _ _ _ c.in-Equal.ensures) c.if-q-ne0.false
