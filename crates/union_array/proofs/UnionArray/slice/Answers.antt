use Rattle.std.proofs.Common.{◌≡◌, sym, ◌∙◌, arith, rules, ◌+◌, ◌≤◌, length}
use Rattle.union_array.specs.Questions.{asked}
use Rattle.union_array.proofs.Accepted.{accepted}
use Rattle.union_array.proofs.Sliced.{movable}
use borrow.Author.Tests.{leb-true}
use Rattle.union_array.proofs.UnionArray.slice.Goals as goal

pub cut-requires : goal.cut-requires
cut-requires c =
    let a = c.args.self in
    let m = c.args.lent.now in
    let e : 0 ≡ asked a m = rw c.in_ok-ask.was at c.ask.ensures in
    let l : c.args.o + c.args.n ≤ a.count = leb-true _ _ (sym c.part_in.ensures ∙ c.if-not-part_in.false) in
    let y = accepted a m (sym e) in
    let w = y.count in
    let full : length a.columns ≡ 128 = search rules in
    (movable a m y full (search rules) (search rules) (search rules) (search rules) c.args.o (omega arith), omega arith)
