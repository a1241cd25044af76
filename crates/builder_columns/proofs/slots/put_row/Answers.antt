use Rattle.builder_columns.proofs.Putting.{room_kept, room_upto}
use Rattle.builder_columns.proofs.slots.put_row.Goals as goal

pub put_slot-requires : goal.put_slot-requires
put_slot-requires c =
    (room_upto _ _ _ _ (room_kept _ _ _ _ _ c.loop-k.invariant.1 c.requires.0) _ c.loop-k-test.true, c.requires.1)
