use borrow.Author.Rules.{rules}
use Rattle.array_columns.proofs.ById.{filled_is}
use Rattle.array_columns.proofs.slots.places_by_id.Goals as goal

pub returns : goal.returns
returns c = filled_is 128 (λ k c. k) _ 0 c.args.columns.now c.by_id.result (λ j x l r. search rules) c.by_id.ensures
