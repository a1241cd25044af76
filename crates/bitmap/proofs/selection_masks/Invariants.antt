-- The selection masks of the first j ids. Assumes nothing.
use Rattle.std.proofs.Common.{◌≡◌}
use Rattle.bitmap.specs.Bits.{selections_of}
use Rattle.bitmap.proofs.selection_masks.Given as goal

abbrev pub invariant-loop-j : goal.invariant-loop-j
invariant-loop-j l = l.masks ≡ selections_of l.ids 0 l.j
