-- The laws of `first_of`: the first number below n of which something holds. Assumes nothing.
use mathlib.Core.Path.{◌≡◌, refl, sym, ap, ap₂, ◌∙◌, subst}
use mathlib.Core.Bool.{Bool, true, false, cond}
use mathlib.Core.Option.{Option, none, some}
use Prim.Native.Nat.{ℕ, zero, suc, ◌+◌, ◌<◌}
use native.Mathlib.Nat.{le_refl, not-suc-le-zero}
use native.Mathlib.Numerals.{add-one}
use native.Mathlib.Omega.{arith}
use Rattle.bitmap.specs.Lists.{or_then, first_of}
use Rattle.bitmap.proofs.Tables.{last_or}

-- none below k, and not k
pub first_more : (k : ℕ) (p : ℕ → Bool) → first_of k p ≡ none → p k ≡ false → first_of (k + 1) p ≡ none
first_more k p e h = ap (λ (n : ℕ). first_of n p) (add-one k) ∙ ap₂ (λ (o : Option ℕ) (t : Bool). or_then o (cond t (some k) none)) e h

-- none below k, and k
pub first_here : (n : ℕ) (p : ℕ → Bool) (k : ℕ) → k < n → first_of k p ≡ none → p k ≡ true → first_of n p ≡ some k
first_here zero p k h e t = absurd (not-suc-le-zero h)
first_here (suc n) p k h e t =
    last_or k n h (λ l. ap (λ (o : Option ℕ). or_then o (cond (p n) (some n) none)) (first_here n p k l e t))
    (λ q. subst (λ (j : ℕ). first_of (suc j) p ≡ some k) q (ap₂ (λ (o : Option ℕ) (b : Bool). or_then o (cond b (some k) none)) e t))

-- a number found is below n, and p holds of it
first_both : (n : ℕ) (p : ℕ → Bool) (k : ℕ) → first_of n p ≡ some k → (k < n) × (p k ≡ true)
first_both zero p k e = absurd (let z : ◌≡◌ {A = ℕ} 0 1 = cc in omega arith)
first_both (suc n) p k e = at (first_of n p) (p n) refl (first_both n p) e
  where
    at : (o : Option ℕ) (t : Bool) → p n ≡ t → ((j : ℕ) → o ≡ some j → (j < n) × (p j ≡ true))
        → or_then o (cond t (some n) none) ≡ some k → (k < suc n) × (p k ≡ true)
    at none true h q g = let z : n ≡ k = cc in (omega arith, ap p (sym z) ∙ h)
    at none false h q g = absurd (let z : ◌≡◌ {A = ℕ} 0 1 = cc in omega arith)
    at (some j) t h q g = let r = q k g in (omega (arith, r.0), r.1)

pub first_lt : (n : ℕ) (p : ℕ → Bool) (k : ℕ) → first_of n p ≡ some k → k < n
first_lt n p k e = (first_both n p k e).0

pub first_holds : (n : ℕ) (p : ℕ → Bool) (k : ℕ) → first_of n p ≡ some k → p k ≡ true
first_holds n p k e = (first_both n p k e).1

-- none found: p holds of none
pub first_none : (n : ℕ) (p : ℕ → Bool) → first_of n p ≡ none → (k : ℕ) → k < n → p k ≡ false
first_none zero p e k h = absurd (not-suc-le-zero h)
first_none (suc n) p e k h = at (first_of n p) (p n) refl (first_none n p) e
  where
    at : (o : Option ℕ) (t : Bool) → p n ≡ t → (o ≡ none → (j : ℕ) → j < n → p j ≡ false) → or_then o (cond t (some n) none) ≡ none → p k ≡ false
    at none true s q g = absurd (let z : ◌≡◌ {A = ℕ} 0 1 = cc in omega arith)
    at none false s q g = last_or k n h (λ l. q refl k l) (λ z. ap p z ∙ s)
    at (some j) t s q g = absurd (let z : ◌≡◌ {A = ℕ} 0 1 = cc in omega arith)

-- the same test gives the same place
pub first_ext : (n : ℕ) (p q : ℕ → Bool) → ((k : ℕ) → k < n → p k ≡ q k) → first_of n p ≡ first_of n q
first_ext zero p q h = refl
first_ext (suc n) p q h = rw (first_ext n p q (λ k l. h k (omega arith)), h n (le_refl (suc n)))
