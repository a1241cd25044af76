use native.Mathlib.Omega.{arith}
use Rattle.builder_columns.proofs.Putting.{room_kept}
use Rattle.builder_columns.proofs.slots.put_nulls.Goals as goal

pub put_slot-requires : goal.put_slot-requires
put_slot-requires c =
    (room_kept _ _ _ _ _ c.loop-slot.invariant.1 c.requires.0, omega arith)
