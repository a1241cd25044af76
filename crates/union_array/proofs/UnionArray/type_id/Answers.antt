use Rattle.std.proofs.Common.{rules, w8, to_z-of_z}
use Rattle.union_array.proofs.ChildSlots.{type_id_is}
use Rattle.union_array.proofs.UnionArray.type_id.Goals as goal

pub returns : goal.returns
returns c =
    rw (to_z-of_z {w = w8} {z = c.in_ok-s.s.id} (record { sfits = search rules }))
    (type_id_is c.args.self c.args.lent.now c.args.i c.in_ok-s.s (rw c.in_ok-s.was at c.child_slot.ensures))
