use Rattle.union_array.proofs.OnePass.{asked_ok}
use Rattle.union_array.proofs.UnionArray.ask.Goals as goal

pub returns : goal.returns
returns c = asked_ok c.args.self.now c.args.lent.now _ c.in_ok-look.field-0 (rw c.in_ok-look.was at c.look.ensures)
