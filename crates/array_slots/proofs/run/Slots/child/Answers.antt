use Rattle.std.proofs.Common.{rules, ap, ◌∙◌}
use Rattle.array_columns.specs.Pass.{column_told}
use Rattle.array_columns.proofs.Signed.{id_read}
use Rattle.array_slots.proofs.Places.{column_read}
use Rattle.array_slots.proofs.run.Slots.child.Goals as goal

pub returns : goal.returns
returns c =
    let s = c.args.self.now in
    let r = s.valued.readable in
    let e = c.get.ensures.lookup in
    ap column_told c.copied.ensures
    ∙ column_read s.head.fields s.columns.now r.few (search rules) r.valid s.places s.placed c.args.id c.ranges.id.sfits c.entry_of.result
    (rw (id_read c.args.id c.ranges.id.sfits) at c.entry_of.ensures.0) c.get.result e.0 e.1
