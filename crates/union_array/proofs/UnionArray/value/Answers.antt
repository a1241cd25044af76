use Rattle.union_array.proofs.ChildSlots.{child_in, slot_within}
use Rattle.union_array.proofs.UnionArray.value.Goals as goal

pub value-requires : goal.value-requires
value-requires c =
    let e = rw c.in_ok-s.was at c.child_slot.ensures in (
      slot_within c.args.self c.args.lent.now c.args.i c.in_ok-s.s e,
      child_in c.args.self c.args.lent.now c.args.i c.in_ok-s.s e,
    )
