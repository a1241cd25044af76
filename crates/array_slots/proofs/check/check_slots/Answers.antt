use Rattle.std.proofs.Common.{sym, ◌∙◌}
use Rattle.array_slots.proofs.Checked.{slots_seven, slots_eight, slots_dense, slots_sparse}
use Rattle.array_slots.proofs.check.check_slots.Goals as goal

pub returns-then-not-ids_named : goal.returns-then-not-ids_named
returns-then-not-ids_named c =
    let m = c.lent.view_is in
    let y = rw (← m) at c.requires in
    rw (← m) (slots_seven c.args.h c.args.columns.now _ _ y (sym c.ids_named.ensures ∙ c.if-not-ids_named.true))

pub returns-in-Sparse : goal.returns-in-Sparse
returns-in-Sparse c =
    let m = c.lent.view_is in
    let y = rw (← m) at c.requires in
    rw (← m) (slots_sparse c.args.h c.args.columns.now _ _ y (sym c.ids_named.ensures ∙ c.if-not-ids_named.false) c.in-Sparse.is)

pub returns-then-not-offsets_within : goal.returns-then-not-offsets_within
returns-then-not-offsets_within c =
    let m = c.lent.view_is in
    let y = rw (← m) at c.requires in
    rw (← m)
    (slots_eight c.args.h c.args.columns.now _ _ y (sym c.ids_named.ensures ∙ c.if-not-ids_named.false) c.in-Dense.is
    (sym c.offsets_within.ensures ∙ c.if-not-offsets_within.true))

pub returns-else-not-offsets_within : goal.returns-else-not-offsets_within
returns-else-not-offsets_within c =
    let m = c.lent.view_is in
    let y = rw (← m) at c.requires in
    rw (← m)
    (slots_dense c.args.h c.args.columns.now _ _ y (sym c.ids_named.ensures ∙ c.if-not-ids_named.false) c.in-Dense.is
    (sym c.offsets_within.ensures ∙ c.if-not-offsets_within.false))
