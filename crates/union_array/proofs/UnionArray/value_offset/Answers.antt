use Rattle.union_array.proofs.ChildSlots.{value_offset_is}
use Rattle.union_array.proofs.UnionArray.value_offset.Goals as goal

pub returns : goal.returns
returns c = value_offset_is c.args.self c.args.lent.now c.args.i c.in_ok-s.s (rw c.in_ok-s.was at c.child_slot.ensures)
