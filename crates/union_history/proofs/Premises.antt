-- The premise of the claim is met by calls that are each lent the memory as the last left it. Assumes nothing.
use mathlib.Core.Bool.{Bool, false, false≢true, not, true}
use mathlib.Core.List.{List, [], ◌∷◌}
use mathlib.Core.Logic.{inr}
use mathlib.Core.Path.{◌≡◌, ap, refl}
use Prim.Native.Nat.{ℕ}
use native.Mathlib.Omega.{arith}
use Rattle.bitmap.proofs.Tables.{both}
use Rattle.array_columns.specs.Buffers.{Buffers}
use Rattle.array_columns.specs.declared.Kind.{Kind}
use Rattle.union_builder.specs.Append.{append_with}
use Rattle.union_builder.specs.Finish.{finish_of}
use Rattle.union_history.specs.Claim as Claim
use Rattle.union_history.specs.Claim.{Call, EndsRight, LentRight, Proper, State, after, reply, step}
use Rattle.union_history.specs.Premise.{Ask, FinishLast, PremiseMet, PremiseMetOn, append, append_mut, append_null, finish, finish_cloned, goes_on, in_turn, is_finish, len, lending}
use Rattle.union_history.proofs.Agree.{agree_refl}

own_memory : (s : State) (q : Ask) → LentRight s (lending s.buffers q)
own_memory s (append name kind x) = inr (agree_refl _ _ _)
own_memory s (append_mut name kind x) = inr (agree_refl _ _ _)
own_memory s (append_null name kind) = inr (agree_refl _ _ _)
own_memory s len = tt
own_memory s finish_cloned = inr (agree_refl _ _ _)
own_memory s finish = inr (agree_refl _ _ _)

-- only a finish is one
ends : (s : State) (q : Ask) (qs : List Ask) → (is_finish q ≡ true → (finish_of s.builder s.buffers).refusal ≡ 0 → qs ≡ [])
    → EndsRight s (lending s.buffers q) (in_turn (after s (lending s.buffers q)) qs)
unfolding step
ends s (append name kind x) qs h m e r = absurd (let z : ◌≡◌ {A = ℕ} 0 1 = cc in omega arith)
ends s (append_mut name kind x) qs h m e r = absurd (let z : ◌≡◌ {A = ℕ} 0 1 = cc in omega arith)
ends s (append_null name kind) qs h m e r = absurd (let z : ◌≡◌ {A = ℕ} 0 1 = cc in omega arith)
ends s len qs h m e r = absurd (let z : ◌≡◌ {A = ℕ} 0 1 = cc in omega arith)
ends s finish_cloned qs h m e r = absurd (let z : ◌≡◌ {A = ℕ} 0 1 = cc in omega arith)
ends s finish qs h m e r = ap (in_turn (after s (lending s.buffers finish))) (h refl r)

proper : (s : State) (qs : List Ask) → FinishLast s qs → Proper s (in_turn s qs)
proper s [] e = tt
proper s (q ∷ qs) e = (own_memory s q, ends s q qs e.0, proper (after s (lending s.buffers q)) qs e.1)

no_finish : (b : Bool) → not b ≡ true → b ≡ true → ⊥
no_finish true n e = false≢true n
no_finish false n e = false≢true e

without_finish : (s : State) (qs : List Ask) → goes_on qs ≡ true → FinishLast s qs
without_finish s [] e = tt
without_finish s (q ∷ qs) e = (
  λ f r. absurd (no_finish (is_finish q) (both (not (is_finish q)) (goes_on qs) e).0 f),
  without_finish (after s (lending s.buffers q)) qs (both (not (is_finish q)) (goes_on qs) e).1,
)

-- an append ends no list
pub append_goes_on : (s : State) (m : Buffers) (name : List ℕ) (kind : Kind) (x : ℕ) (cs : List Call) → EndsRight s (Claim.append m name kind x) cs
append_goes_on s m name kind x cs m' e r = absurd (let z : ◌≡◌ {A = ℕ} 0 1 = cc in omega arith)

-- one answered 16 leaves the state, whatever it was lent
pub sixteen_stays : (s : State) (m : Buffers) (name : List ℕ) (kind : Kind) (x : ℕ) → (reply s (Claim.append m name kind x)).refusal ≡ 16 → after s (Claim.append m name kind x) ≡ s
unfolding step append_with
sixteen_stays s m name kind x e = rw e

pub premise_met_on : PremiseMetOn
unfolding PremiseMetOn
premise_met_on s qs e = proper s qs (without_finish s qs e)

pub premise_met : PremiseMet
unfolding PremiseMet
premise_met = proper
