-- An accepted finish empties the builder, a refused one hands it back. Assumes nothing.
use mathlib.Core.Path.{◌≡◌, sym, ◌∙◌}
use Rattle.array_columns.specs.Buffers.{amounts_of}
use Rattle.array_columns.specs.Refusal.{number_of}
use Rattle.union_builder.specs.Builder.{open_checked}
use Rattle.union_builder.proofs.Asking.{open_checked_lem}
use Rattle.union_builder.proofs.Finishing.{describable, finish_yes, finish_no}
use Rattle.union_builder.proofs.UnionBuilder.finish.Goals as goal

pub described-requires : goal.described-requires
described-requires c =
    let a = c.args in
    let q : number_of c.check_open-checked.result ≡ open_checked a.self (amounts_of a.lent.now) = rw c.amounts.ensures at c.check_open-checked.ensures in
    λ e. describable a.self (amounts_of a.lent.now) (open_checked_lem a.self (amounts_of a.lent.now) (sym q ∙ e))

pub returns-in-Ok : goal.returns-in-Ok
returns-in-Ok c =
    let a = c.args in
    let q : number_of c.check_open-checked.result ≡ open_checked a.self (amounts_of a.lent.now) = rw c.amounts.ensures at c.check_open-checked.ensures in
    rw c.empty.ensures (finish_yes a.self a.lent.now (number_of c.check_open-checked.result) c.in-Ok.array c.in-Ok.ensures q)

pub returns-in-Err : goal.returns-in-Err
returns-in-Err c =
    let a = c.args in
    let q : number_of c.check_open-checked.result ≡ open_checked a.self (amounts_of a.lent.now) = rw c.amounts.ensures at c.check_open-checked.ensures in
    finish_no a.self a.lent.now (number_of c.check_open-checked.result) c.in-Err.refusal c.in-Err.ensures q
