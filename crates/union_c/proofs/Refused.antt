-- Answers with a refusal, and without one. Assumes nothing.
use mathlib.Core.Path.{◌≡◌, refl, sym, ap, ap₂}
use Prim.Native.Nat.{ℕ, zero, suc}
use native.Mathlib.Omega.{arith}
use Rattle.array_columns.specs.Refusal.{if_yes}
use Rattle.union_builder.specs.Finish.{Finished}
use Rattle.union_c.specs.Arrays.{CArray, array_to}
use Rattle.union_c.specs.Builders.{CBuilder, CFinished, builder_to, finished_to}

-- an answer by a refusal's number: a refused one's, or an accepted one's
pub answer_refused : {A : Type 0} (n : ℕ) (x y : A) → (n ≡ 0 → ⊥) → y ≡ if_yes n x y
answer_refused zero x y h = absurd (h refl)
answer_refused (suc n) x y h = refl

pub answer_accepted : {A : Type 0} (n : ℕ) (w x y : A) → n ≡ 0 → w ≡ x → w ≡ if_yes n x y
answer_accepted zero w x y h e = e
answer_accepted (suc n) w x y h e = absurd (omega arith)

-- both, turned round
pub refused_is : {A : Type 0} (n : ℕ) (x y : A) → (n ≡ 0 → ⊥) → if_yes n x y ≡ y
refused_is n x y h = sym (answer_refused n x y h)

pub accepted_is : {A : Type 0} (n : ℕ) (x y : A) → n ≡ 0 → if_yes n x y ≡ x
accepted_is n x y h = sym (answer_accepted n x x y h refl)

module _ (c : CBuilder) (f : Finished) where
  -- a finish's answer: refused, the builder as it came; accepted, the one that the finish leaves
  pub finish_refused : (a : CArray) → (f.refusal ≡ 0 → ⊥) → a ≡ array_to f.array → ◌≡◌ {A = CFinished} (record { builder = c; array = a; refusal = f.refusal }) (finished_to c f)
  finish_refused a h e = rw e (ap (λ (b : CBuilder). record { builder = b; array = array_to f.array; refusal = f.refusal }) (answer_refused f.refusal _ c h))

  pub finish_accepted : (b : CBuilder) (a : CArray) → f.refusal ≡ 0 → b ≡ builder_to f.builder → a ≡ array_to f.array → ◌≡◌ {A = CFinished} (record { builder = b; array = a; refusal = 0 }) (finished_to c f)
  finish_accepted b a h g e =
      rw e (ap₂ (λ (b : CBuilder) (n : ℕ). record { builder = b; array = array_to f.array; refusal = n }) (answer_accepted f.refusal b _ c h g) (sym h))
