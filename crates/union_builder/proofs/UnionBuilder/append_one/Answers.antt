-- The step of the append, taken. Assumes nothing.
use mathlib.Core.Path.{◌≡◌, sym, ap, ◌∙◌}
use native.Mathlib.Omega.{arith}
use lib.ListN.{length}
use Rattle.std.proofs.Common.{rules}
use Rattle.array_columns.specs.Buffers.{amounts_of, held}
use Rattle.array_columns.specs.Refusal.{number_of}
use Rattle.builder_columns.specs.Columns.{given}
use Rattle.builder_appends.specs.Steps.{append_by, stepped}
use Rattle.union_builder.specs.Builder.{builder_head, open_checked}
use Rattle.union_builder.specs.Append.{cut_to}
use Rattle.union_builder.proofs.Planning.{appended_of}
use Rattle.union_builder.proofs.Appending.{open_parts, append_cut}
use Rattle.union_builder.proofs.Readings.{lifted, lifted_told, lifted_append}
use Rattle.union_builder.proofs.UnionBuilder.append_one.Goals as goal

pub append_step-step-requires : goal.append_step-step-requires
append_step-step-requires c =
    let a = c.args in
    let q : number_of c.check_open-checked.result ≡ open_checked a.self (amounts_of (held a.lent.now)) = rw c.amounts.ensures at c.check_open-checked.ensures in
    λ e. rw c.head.ensures (open_parts a.self (amounts_of (held a.lent.now)) (sym q ∙ e))

pub returns-clause-after : goal.returns-clause-after
returns-clause-after c =
    let a = c.args in
    let b = a.self in
    let m = held a.lent.now in
    let n = number_of c.check_open-checked.result in
    let q : n ≡ open_checked b (amounts_of m) = rw c.amounts.ensures at c.check_open-checked.ensures in
    let full : length b.columns ≡ 128 = omega arith in
    let cut : given c.map-cut.result ≡ cut_to a.kind (given a.value) = search rules in
    let o = c.append_step-step.result in
    let m' = held c.append_step-step.new.lent in
    let after : stepped o m' ≡ append_by n (builder_head b) b.columns a.name.now a.kind (given c.map-cut.result) m = rw c.head.ensures at c.append_step-step.ensures.after in
    rw (c.take-answer.ensures.builder, c.take-answer.ensures.number)
    (lifted_told b o m' ∙ ap (lifted b) after ∙ lifted_append b m full n q a.name.now a.kind (given c.map-cut.result)
    ∙ ap (appended_of b m a.name.now a.kind) cut ∙ append_cut b m a.name.now a.kind (given a.value))
