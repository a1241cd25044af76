use Rattle.std.proofs.Common.{rules, arith, ◌∙◌}
use Rattle.union_array.proofs.OnePass.{looked_is}
use Rattle.union_array.proofs.UnionArray.look.Goals as goal

pub returns : goal.returns
returns c =
    c.first_no.ensures
    ∙ looked_is c.args.self.now c.args.lent.now c.args.id c.pass-p.result (omega (arith, c.if-self-gt128.false)) (search rules) (search rules) (search rules) (search rules) (search rules)
