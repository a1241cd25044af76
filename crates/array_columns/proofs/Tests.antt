-- The first number of a chain of questions. Assumes nothing.
use mathlib.Core.Bool.{Bool, true, false}
use mathlib.Core.Path.{◌≡◌, refl}
use Prim.Native.Nat.{ℕ, zero, suc}
use native.Mathlib.Omega.{arith}
use Rattle.array_columns.specs.Refusal.{no, ◌then◌, if_yes}

-- a number that is not 0 ends the chain
pub then_left : (a b : ℕ) → (a ≡ 0 → ⊥) → (a then b) ≡ a
then_left zero b h = absurd (h refl)
then_left (suc a) b h = refl

-- a chain that answers 0: each number of it is 0, each question answered yes
pub then_zero : (a b : ℕ) → (a then b) ≡ 0 → (a ≡ 0) × (b ≡ 0)
then_zero zero b h = (refl, h)
then_zero (suc a) b h = absurd (omega arith)

pub yes_is : (n : ℕ) (b : Bool) → no (suc n) b ≡ 0 → b ≡ true
yes_is n true h = refl
yes_is n false h = absurd (omega arith)

pub yes_then : (n : ℕ) (b : Bool) (x : ℕ) → (no (suc n) b then x) ≡ 0 → (b ≡ true) × (x ≡ 0)
yes_then n b x h = let y = then_zero (no (suc n) b) x h in (yes_is n b y.0, y.1)

pub refused_is : {A : Type 0} (n : ℕ) (x y : A) → (n ≡ 0 → ⊥) → if_yes n x y ≡ y
refused_is zero x y h = absurd (h refl)
refused_is (suc n) x y h = refl
