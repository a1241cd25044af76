-- The loop has selected the slots of the fields before it. Assumes nothing.
use mathlib.Core.Path.{◌≡◌}
use lib.Bits.{bit_and}
use Rattle.mask_words.specs.Steps.{or_of, field_at, field_mask}
use Rattle.mask_words.proofs.steps.select.Given as goal

abbrev pub invariant-loop-f : goal.invariant-loop-f
invariant-loop-f l = record {
  selected : l.s.selected ≡ or_of l.f-index (field_mask l.fields l.ids);
  present : l.s.present ≡ or_of l.f-index (λ q. bit_and (field_mask l.fields l.ids q) (field_at l.fields q).chunk);
}
