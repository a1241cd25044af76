-- The loop has collected the places of those of the fields before it that are taken up. Assumes nothing.
use mathlib.Core.Path.{◌≡◌}
use Prim.Native.Nat.{◌≤◌}
use lib.ListN.{length, take}
use Rattle.mask_words.specs.Steps.{taken_places}
use Rattle.mask_words.proofs.TakenFields.of.Given as goal

abbrev pub invariant-loop-place : goal.invariant-loop-place
invariant-loop-place l = record {
  few : length l.taken ≤ l.place;
  places : l.taken ≡ taken_places l.over 0 (take l.place l.state-items);
}
