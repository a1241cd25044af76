-- Entries read or written one at a time: the first ones by a function, and a test of each of them. Assumes nothing.
use mathlib.Core.Path.{◌≡◌, refl, sym, ap, ap₂, ◌∙◌}
use mathlib.Core.Bool.{Bool, cond, ◌&&◌}
use mathlib.Core.List.{List, [], ◌∷◌}
use Prim.Native.Nat.{ℕ, zero, suc, ◌+◌, ◌≤◌, ◌<◌}
use native.Mathlib.Nat.{not-suc-le-zero, le_of_suc-le-suc}
use native.Mathlib.Numerals.{add-one}
use native.Mathlib.Omega.{arith}
use borrow.Author.Tests.{lt-ltb, le-ltb}
use lib.ListN.{length, get_or, take, set}
use Rattle.std.specs.List.{list_all}
use Rattle.bitmap.proofs.Tables.{three}
use Rattle.union_c.specs.Numbers.{each, entries_used, first_by}

module _ {A B : Type 0} (f : A → B) where
  pub first_length : (n : ℕ) (xs : List A) (rest : List B) → length (first_by n f xs rest) ≡ length rest
  unfolding first_by
  first_length zero xs rest = refl
  first_length (suc n) [] rest = refl
  first_length (suc n) (x ∷ xs) [] = refl
  first_length (suc n) (x ∷ xs) (y ∷ rest) = ap suc (first_length n xs rest)

  pub first_none : (xs : List A) (rest : List B) → rest ≡ first_by 0 f xs rest
  unfolding first_by
  first_none xs rest = refl

  stored : (x : A) (k : ℕ) (xs : List A) (rest : List B)
      → k < length xs → k < length rest → set (first_by k f xs rest) k (f (get_or xs k x)) ≡ first_by (suc k) f xs rest
  unfolding first_by
  stored x k [] rest h l = absurd (not-suc-le-zero h)
  stored x k (y ∷ xs) [] h l = absurd (not-suc-le-zero l)
  stored x zero (y ∷ xs) (z ∷ rest) h l = refl
  stored x (suc k) (y ∷ xs) (z ∷ rest) h l = ap (λ (r : List B). f y ∷ r) (stored x k xs rest (le_of_suc-le-suc h) (le_of_suc-le-suc l))

  -- one more turn: entry k, which is x, is stored
  pub first_turn : (x : A) (v : B) (xs : List A) (rest now : List B) (k : ℕ)
      → now ≡ first_by k f xs rest → x ≡ get_or xs k x → v ≡ f x → k < length xs → k < length rest → set now k v ≡ first_by (k + 1) f xs rest
  first_turn x v xs rest now k e i w h l =
      ap₂ (λ (r : List B) (y : B). set r k y) e (w ∙ ap f i) ∙ stored x k xs rest h l ∙ ap (λ (n : ℕ). first_by n f xs rest) (sym (add-one k))

  -- of the first n entries alone
  pub first_taken : (n : ℕ) (xs : List A) (rest : List B) → first_by (length (take n xs)) f (take n xs) rest ≡ first_by n f xs rest
  unfolding first_by
  first_taken zero xs rest = refl
  first_taken (suc n) [] rest = refl
  first_taken (suc n) (x ∷ xs) [] = refl
  first_taken (suc n) (x ∷ xs) (y ∷ rest) = ap (λ (r : List B). f x ∷ r) (first_taken n xs rest)

module _ {A : Type 0} where
  beyond : (m n : ℕ) (xs : List A) → length xs ≤ m → m ≤ n → take m xs ≡ take n xs
  beyond zero zero xs h l = refl
  beyond zero (suc n) [] h l = refl
  beyond zero (suc n) (x ∷ xs) h l = absurd (not-suc-le-zero h)
  beyond (suc m) zero xs h l = absurd (not-suc-le-zero l)
  beyond (suc m) (suc n) [] h l = refl
  beyond (suc m) (suc n) (x ∷ xs) h l = ap (λ (r : List A). x ∷ r) (beyond m n xs (le_of_suc-le-suc h) (le_of_suc-le-suc l))

  -- of 128 entries, those in use are the first ones
  pub used_taken : (n : ℕ) (xs : List A) → length xs ≡ 128 → take (entries_used n) xs ≡ take n xs
  used_taken n xs e =
      three n 128 (λ h. ap (λ (t : Bool). take (cond t n 128) xs) (lt-ltb n 128 h)) (λ h. over (omega arith)) (λ h. over (omega arith))
    where
      over : 128 ≤ n → take (entries_used n) xs ≡ take n xs
      over h = ap (λ (t : Bool). take (cond t n 128) xs) (le-ltb n 128 h) ∙ beyond 128 n xs (omega arith) h

-- entries written: those in use, by what a call of `write` told
pub written_is : {A B : Type 0} (f : A → B) (n m : ℕ) (xs : List A) (rest out : List B) → m ≡ entries_used n → length xs ≡ 128
    → out ≡ first_by (length (take m xs)) f (take m xs) rest → out ≡ first_by n f xs rest
written_is f n m xs rest out e l h = h ∙ ap (λ ys. first_by (length ys) f ys rest) (ap (λ i. take i xs) e ∙ used_taken n xs l) ∙ first_taken f n xs rest

-- of 128 entries, those in use pass
pub all_used : {A : Type 0} (p : A → Bool) (n m : ℕ) (xs : List A) → m ≡ entries_used n → length xs ≡ 128 → list_all p (take m xs) ≡ each p (take n xs)
all_used p n m xs e l = ap (list_all p) (ap (λ i. take i xs) e ∙ used_taken n xs l) ∙ same (take n xs)
  where
    same : (ys : List _) → list_all p ys ≡ each p ys
    same [] = refl
    same (y ∷ ys) = ap (λ (b : Bool). p y && b) (same ys)
