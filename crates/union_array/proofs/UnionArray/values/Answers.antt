use Rattle.std.proofs.Common.{◌≡◌, ◌∙◌}
use Rattle.union_array.specs.Questions.{asked}
use Rattle.union_array.proofs.Checked.{valued}
use Rattle.union_array.proofs.Runs.{run_is}
use Rattle.union_array.proofs.UnionArray.values.Goals as goal

pub run-requires : goal.run-requires
run-requires c =
    let e : 0 ≡ asked c.args.self c.args.lent.now = rw c.in_ok-ask.was at c.ask.ensures in
    rw c.head.ensures (valued c.args.self c.args.lent.now e)

pub returns : goal.returns
returns c =
    let a = c.args in
    let e : 0 ≡ asked a.self a.lent.now = rw c.in_ok-ask.was at c.ask.ensures in
    rw c.head.ensures at c.run.ensures ∙ run_is a.self a.lent.now a.first a.n a.ids.now a.missing.now a.bits.now e
