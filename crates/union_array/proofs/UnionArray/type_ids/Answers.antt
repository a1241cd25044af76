use Rattle.std.proofs.Common.{◌≡◌, ◌∙◌, ap, arith, ◌+◌, ◌-◌, ℕ, take, drop}
use Rattle.array_columns.specs.Buffers.{Buffers}
use Rattle.union_array.specs.Questions.{asked}
use Rattle.union_array.proofs.Lookups.{ids_are}
use Rattle.union_array.proofs.UnionArray.type_ids.Goals as goal

pub returns : goal.returns
returns c =
    let a = c.args.self in
    let e : 0 ≡ asked a c.args.lent.now = rw c.in_ok-ask.was at c.ask.ensures in
    let n : a.start + a.count - a.start ≡ a.count = omega arith in
    ids_are a c.args.lent.now e _
    (ap (λ (k : ℕ). take k (drop a.start c.lent.inside.type_ids.now)) n ∙ ap (λ (q : Buffers). take a.count (drop a.start q.ids)) c.lent.view_is)
