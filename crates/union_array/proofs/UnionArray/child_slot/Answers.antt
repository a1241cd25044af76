use Rattle.std.proofs.Common.{◌≡◌, ◌∙◌, ap, ◌+◌, pos, get_or, w8, to_z, of_z, to_z-of_z}
use Rattle.array_columns.specs.Buffers.{Buffers}
use Rattle.union_array.specs.Slots.{type_id_at}
use Rattle.union_array.specs.Look.{looked_told}
use Rattle.union_array.proofs.ChildSlots.{settled_is}
use Rattle.union_array.proofs.UnionArray.child_slot.Goals as goal

pub returns : goal.returns
returns c =
    let a = c.args.self.now in
    let m = c.args.lent.now in
    let x = c.item_at-id.result in
    let same : to_z w8 (of_z w8 x) ≡ type_id_at a m c.args.i =
    to_z-of_z {w = w8} {z = x} (record { sfits = c.item_at-id.type_inv }) ∙ c.item_at-id.ensures
    ∙ ap (λ (q : Buffers). get_or q.ids (a.start + c.args.i) (pos 0)) c.lent.view_is in
    let offsets = c.lent.view_is in
    rw (c.head.ensures, same) at c.slot_in_child.ensures
    ∙ rw (← offsets) (settled_is a _ c.args.i (looked_told c.look.result) (rw (same, ← offsets) at c.look.ensures))
