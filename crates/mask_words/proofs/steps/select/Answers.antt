use mathlib.Core.Path.{refl, ap, ◌∙◌}
use mathlib.Core.List.{List}
use Prim.Native.Nat.{ℕ}
use lib.Bits.{bit_and}
use lib.IntN.{nat_abs}
use lib.ListN.{length, get_or}
use mir.Syntax.{w8}
use mir.Val.{of_z, to_z}
use Rattle.mask_words.specs.Steps.{or_of, field_at, field_mask}
use Rattle.mask_words.proofs.Selecting.{or_more}
use Rattle.mask_words.proofs.ValidIds.{valid_word}
use Rattle.mask_words.proofs.steps.select.Goals as goal

pub loop-f-init : goal.loop-f-init
unfolding or_of
loop-f-init c = record { selected = refl; present = refl }

pub loop-f-preserved : goal.loop-f-preserved
loop-f-preserved c =
    let fields = c.args.fields.now in
    let ids = c.args.ids.now in
    let l = c.loop-f in
    let q = l.f-index in
    let f = field_at fields q in
    let mask : ℕ → ℕ = field_mask fields ids in
    let x = ap (λ (m : List ℕ). get_or m (nat_abs (to_z w8 (of_z w8 f.id))) 0) c.selection_masks-selections.ensures
    ∙ valid_word ids 0 (length ids) f.id (c.requires.named q c.loop-f-test.true) in
    record {
      selected = or_more mask q _ _ l.invariant.selected x;
      present = or_more (λ q. bit_and (mask q) (field_at fields q).chunk) q _ _ l.invariant.present (ap (λ (y : ℕ). bit_and y f.chunk) x);
    }
