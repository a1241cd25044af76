use mathlib.Core.Path.{◌≡◌, ap, ◌∙◌}
use Rattle.std.proofs.lemmas.Result.{err_from_is_err_and}
use Rattle.array_columns.specs.Buffers.{Buffers}
use Rattle.union_array.specs.declared.UnionArray.{UnionArray}
use Rattle.union_builder.specs.Finish.{describe}
use Rattle.union_builder.proofs.Finishing.{finished, described_is, described_no}
use Rattle.union_builder.proofs.UnionBuilder.described.Goals as goal

pub returns-in_err-checked : goal.returns-in_err-checked
returns-in_err-checked c =
    let p = err_from_is_err_and c.from_residual.result c.from_residual.ensures.1 in
    rw (p.1, p.2, c.in_err-checked.was) (described_no c.args.self.now c.args.lent.now c.in_err-checked.field-0.0)

pub returns : goal.returns
returns c =
    let b = c.args.self.now in
    let m = c.args.lent.now in
    let en : c.lent.inside.names.now ≡ m.names = ap (λ (x : Buffers). x.names) c.lent.view_is in
    let e : c.describe.result ≡ describe b m = (rw (c.head.ensures, en) at c.describe.ensures) ∙ described_is b m in
    rw c.in_ok-checked.was (ap (λ (a : UnionArray). finished b a 0) e)
