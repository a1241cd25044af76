use borrow.Author.Rules.{rules}
use Rattle.array_columns.proofs.ById.{filled_is}
use Rattle.array_columns.proofs.slots.slots_by_id.Goals as goal

pub returns : goal.returns
returns c = filled_is 0 (λ k c. c.slots) _ 0 c.args.columns.now c.by_id.result (λ j x l r. search rules) c.by_id.ensures
