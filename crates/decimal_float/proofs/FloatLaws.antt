-- Laws of decimals as text: the point, and powers of ten.
use mathlib.Core.Path.{◌≡◌, refl, sym, ap, ◌∙◌}
use mathlib.Core.Bool.{Bool, true, false, cond, not}
use mathlib.Core.List.{List, [], ◌∷◌}
use Prim.Native.Nat.{ℕ, suc, ◌+◌, ◌-◌, ◌*◌, ◌^◌, ◌<◌, ◌≤◌}
use native.Mathlib.Nat.{pow-suc, pow-le-pow_right, one-le-pow}
use native.Mathlib.Numerals.{add-one}
use native.Mathlib.Omega.{arith}
use lib.Dec.{eqb}
use lib.ListN.{length, take, drop, drop_of_length-le}
use lib.Seq.{take_all}
use borrow.Author.Tests.{ltb-false}
use Rattle.std.specs.Prelude.{Option, Some, None, ◌==◌, nat_lt, position}
use Rattle.std.specs.List.{position_or_len}
use Rattle.decimal.specs.Integers.{is_hex, hex_of}
use Rattle.decimal.proofs.IntegerLaws.{tail_is}
use Rattle.decimal_float.specs.declared.Format.{Format}
use Rattle.decimal_float.specs.Floats.{hex_digits, before_point, after_point, fraction_of, size_of, float_of}

-- ---- powers of ten

pub ten_small : (k : ℕ) → k ≤ 15 → 10 ^ k ≤ 10 ^ 15
ten_small k h = pow-le-pow_right (omega arith) h

pub ten_pos : (k : ℕ) → 0 < 10 ^ k
ten_pos k = one-le-pow k 10 (omega arith)

-- one digit more
pub ten_more : (k : ℕ) → 10 ^ k * 10 ≡ 10 ^ (k + 1)
ten_more k = rw (add-one) (sym (pow-suc 10 k))

-- ---- the two parts of a text

before_take : (xs : List ℕ) → take (length (before_point xs)) xs ≡ before_point xs
unfolding before_point
before_take [] = refl
before_take (x ∷ xs) = go (before_take xs) (eqb x 46)
  where
    go : take (length (before_point xs)) xs ≡ before_point xs → (t : Bool) → take (length (cond t [] (x ∷ before_point xs))) (x ∷ xs) ≡ cond t [] (x ∷ before_point xs)
    go ih true = refl
    go ih false = ap (λ (l : List ℕ). x ∷ l) ih

after_drop : (xs : List ℕ) → drop (suc (length (before_point xs))) xs ≡ after_point xs
unfolding before_point after_point
after_drop [] = refl
after_drop (x ∷ xs) = go (after_drop xs) (eqb x 46)
  where
    go : drop (suc (length (before_point xs))) xs ≡ after_point xs → (t : Bool) → drop (suc (length (cond t [] (x ∷ before_point xs)))) (x ∷ xs) ≡ cond t xs (after_point xs)
    go ih true = refl
    go ih false = ih

-- the place of the first point
abbrev pub Point : List ℕ → Option ℕ
Point xs = position (λ b. b == 46) xs

first_is : (xs : List ℕ) → position_or_len (λ b. b == 46) xs ≡ length (before_point xs)
unfolding before_point
first_is [] = refl
first_is (x ∷ xs) = go (first_is xs) (eqb x 46)
  where
    go : position_or_len (λ b. b == 46) xs ≡ length (before_point xs) → (t : Bool) → cond (not t) (1 + position_or_len (λ b. b == 46) xs) 0 ≡ length (cond t [] (x ∷ before_point xs))
    go ih true = refl
    go ih false = omega arith

module _ (f : Format) (s : Bool) (xs : List ℕ) where
  pub size_parts : (p : ℕ) → Point xs ≡ Some p → fraction_of f s (take p xs) (take (length xs - (p + 1)) (drop (p + 1) xs)) ≡ size_of f s xs
  unfolding size_of
  size_parts p e = go (nat_lt (position_or_len (λ b. b == 46) xs) (length xs)) e
    where
      told : p ≡ length (before_point xs) → fraction_of f s (take p xs) (take (length xs - (p + 1)) (drop (p + 1) xs)) ≡ size_of f s xs
      told place =
          ap (λ (l : List ℕ). fraction_of f s (take p xs) l) (tail_is xs (p + 1) ∙ ap (λ (x : ℕ). drop x xs) (add-one p ∙ ap suc place) ∙ after_drop xs)
          ∙ ap (λ (l : List ℕ). fraction_of f s l (after_point xs)) (ap (λ (x : ℕ). take x xs) place ∙ before_take xs)

      go : (t : Bool) → cond t (Some (position_or_len (λ b. b == 46) xs)) None ≡ Some p → fraction_of f s (take p xs) (take (length xs - (p + 1)) (drop (p + 1) xs)) ≡ size_of f s xs
      go true k = told (let h : position_or_len (λ b. b == 46) xs ≡ p = cc in sym h ∙ first_is xs)
      go false k = cc

  pub size_whole : Point xs ≡ None → fraction_of f s xs [] ≡ size_of f s xs
  unfolding size_of
  size_whole e = go (nat_lt (position_or_len (λ b. b == 46) xs) (length xs)) (ltb-false (position_or_len (λ b. b == 46) xs) (length xs)) e
    where
      told : length xs ≤ length (before_point xs) → fraction_of f s xs [] ≡ size_of f s xs
      told h =
          ap (λ (l : List ℕ). fraction_of f s xs l) (sym (sym (after_drop xs) ∙ drop_of_length-le xs {i = suc (length (before_point xs))} (omega arith)))
          ∙ ap (λ (l : List ℕ). fraction_of f s l (after_point xs)) (sym (sym (before_take xs) ∙ take_all (length (before_point xs)) xs h))

      go : (t : Bool) → (t ≡ false → length xs ≤ position_or_len (λ b. b == 46) xs) → cond t (Some (position_or_len (λ b. b == 46) xs)) None ≡ None → fraction_of f s xs [] ≡ size_of f s xs
      go true h k = cc
      go false h k = told (let l = h refl in let g = first_is xs in omega arith)

-- ---- a text by its first bytes

module _ (f : Format) where
  pub float_hex : (xs : List ℕ) (t : Bool) → (length xs ≡ 0 → ⊥) → t ≡ is_hex xs → t ≡ true → hex_of xs (hex_digits f) ≡ float_of f xs
  unfolding float_of
  float_hex [] t n p q = absurd (n refl)
  float_hex (x ∷ xs) t n p q = rw (sym p ∙ q)
