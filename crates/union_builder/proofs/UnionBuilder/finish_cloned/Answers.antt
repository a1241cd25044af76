-- What 15 and 16 accept can be described. Assumes nothing.
use mathlib.Core.Path.{◌≡◌, sym, ◌∙◌}
use Rattle.array_columns.specs.Buffers.{amounts_of}
use Rattle.array_columns.specs.Refusal.{number_of}
use Rattle.union_builder.specs.Builder.{builder_checked}
use Rattle.union_builder.proofs.Finishing.{describable, cloned_is}
use Rattle.union_builder.proofs.UnionBuilder.finish_cloned.Goals as goal

pub described-requires : goal.described-requires
described-requires c =
    let a = c.args in
    let q : number_of c.check-checked.result ≡ builder_checked a.self (amounts_of a.lent.now) = rw c.amounts.ensures at c.check-checked.ensures in
    λ e. describable a.self (amounts_of a.lent.now) (sym q ∙ e)

pub returns : goal.returns
returns c =
    let a = c.args in
    let q : number_of c.check-checked.result ≡ builder_checked a.self (amounts_of a.lent.now) = rw c.amounts.ensures at c.check-checked.ensures in
    cloned_is a.self a.lent.now (number_of c.check-checked.result) _ c.described.ensures q
