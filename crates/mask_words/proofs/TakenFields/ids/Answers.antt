use Rattle.std.proofs.Common.{rules, refl, sym, ap, ◌∙◌, subst, List, ℕ, ◌≤◌, length, take, set, get_or, length-set}
use lib.IntN.{nat_abs}
use mir.Syntax.{w8}
use mir.Val.{of_z, to_z}
use Rattle.array_columns.specs.Types.{no_column}
use Rattle.mask_words.specs.Steps.{zeros, id_in, TakenNamed}
use Rattle.mask_words.proofs.Padded.{made_next}
use Rattle.mask_words.proofs.TakenUp.{valid_at}
use Rattle.mask_words.proofs.ValidIds.{valid_byte, valid_cast}
use Rattle.mask_words.proofs.TakenFields.ids.Goals as goal

pub loop-q-init : goal.loop-q-init
unfolding zeros
loop-q-init c = record { long = refl; written = refl }

pub overflow_cast-ids-in-loop-q : goal.overflow_cast-ids-in-loop-q
overflow_cast-ids-in-loop-q c =
    let cs = c.args.columns.now in
    let places = take c.self.inside.count c.self.inside.places in
    let q = c.loop-q.q in
    let named = subst (TakenNamed cs) (sym c.self.view_is) c.requires in
    valid_byte (get_or cs (get_or places q 0) no_column).id (valid_at cs places q c.loop-q-test.true named.valid)

pub loop-q-preserved : goal.loop-q-preserved
loop-q-preserved c =
    let cs = c.args.columns.now in
    let places = take c.self.inside.count c.self.inside.places in
    let q = c.loop-q.q in
    let id = (get_or cs (get_or places q 0) no_column).id in
    let named = subst (TakenNamed cs) (sym c.self.view_is) c.requires in
    let few : length places ≤ 128 = search rules in
    let x = nat_abs (to_z w8 (of_z w8 id)) in
    record {
      long = simp length-set c.loop-q.invariant.long;
      written = ap (λ (l : List ℕ). set l q x) c.loop-q.invariant.written
          ∙ made_next (id_in cs) places q x c.loop-q-test.true few (ap nat_abs (valid_cast id (valid_at cs places q c.loop-q-test.true named.valid)));
    }
