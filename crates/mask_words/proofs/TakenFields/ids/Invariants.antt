-- The loop has written the ids of the columns at the places before q. Assumes nothing.
use mathlib.Core.Path.{◌≡◌}
use lib.ListN.{length, take}
use Rattle.mask_words.specs.Steps.{taken_ids}
use Rattle.mask_words.proofs.TakenFields.ids.Given as goal

abbrev pub invariant-loop-q : goal.invariant-loop-q
invariant-loop-q l = record {
  long : length l.ids ≡ 128;
  written : l.ids ≡ taken_ids l.columns (take l.q l.place-items);
}
