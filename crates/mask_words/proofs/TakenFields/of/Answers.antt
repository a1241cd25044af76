use Rattle.std.proofs.Common.{◌≡◌, refl, sym, ap, ◌∙◌, ◌∷◌, [], ◌++◌, List, ℕ, arith, length, take, length-append, append-nil, Bool, true, false, cond}
use Rattle.mask_words.specs.Steps.{zeros, taken_places}
use Rattle.mask_words.proofs.TakenUp.{places_more}
use Rattle.mask_words.proofs.TakenFields.of.Goals as goal
use Rattle.mask_words.proofs.TakenFields.of.Goals.{then-takes, else-takes}

pub invariant_of-taken : goal.invariant_of-taken
unfolding zeros
invariant_of-taken c = (omega arith, refl, refl)

pub loop-place-init : goal.loop-place-init
unfolding taken_places
loop-place-init c = record { few = omega arith; places = refl }

pub loop-place-preserved : goal.loop-place-preserved
loop-place-preserved c =
    let fs = c.args.fs.now in
    let states = take fs.count fs.states in
    let l = c.loop-place in
    let q = l.place in
    let more = λ (b : Bool) (e : c.takes.result ≡ b). ap (λ (p : List ℕ). p ++ cond b (q ∷ []) []) l.invariant.places ∙ places_more c.args.over states q b c.loop-place-test.true (sym e ∙ c.takes.ensures) in
    elim c.if-takes.branch [
      | then-takes w ↦ (
          let e : c.if-takes.taken ≡ l.taken ++ q ∷ [] = w.taken-is ∙ w.push.ensures in
          record { few = omega (arith, simp length-append at (ap length e), l.invariant.few); places = e ∙ more true w.if-takes.true }
          )
      | else-takes w ↦ record { few = rw w.taken-is (omega arith); places = w.taken-is ∙ sym (append-nil l.taken) ∙ more false w.if-takes.false }
    ]
