-- Laws of numerals: how many digits a number has, and its digits without leading zeros.
use mathlib.Core.Path.{◌≡◌, refl, sym, ap, ◌∙◌, subst}
use mathlib.Core.Bool.{Bool, true, false, cond, ◌&&◌}
use mathlib.Core.List.{List, [], ◌∷◌, ◌++◌}
use Prim.Native.Nat.{ℕ, zero, suc, ◌+◌, ◌-◌, ◌*◌, ◌/◌, ◌%◌, ◌^◌, ◌<◌, ◌≤◌}
use native.Mathlib.Nat.{le_trans, le_of_eq, not-le_of_lt, lt_of_not-le, lt_of_lt_of_le, pow-zero, pow-succ', one-le-pow, pow-le-pow_right, div-one, div-div-eq-div-mul, div-eq_of_lt, mod-eq_of_lt, div-lt_iff_lt-mul, le-div_iff_mul-le, one-mul, zero-add, suc-add}
use native.Mathlib.Numerals.{add-one}
use native.Mathlib.Omega.{arith}
use lib.Dec.{ltb, eqb}
use lib.ListN.{length, length-append}
use borrow.Author.Tests.{lt-ltb, eq-eqb, ltb-true, eqb-true}
use Rattle.decimal.specs.Text.{glyph_of, last_digits, without_zeros, natural_text}

-- a number below 2 ^ 64 has 20 digits at most
pub places_few : (n k : ℕ) → n < 2 ^ 64 → 10 ^ k ≤ n → k < 20
places_few n k h l = lt_of_not-le (λ (g : 20 ≤ k). not-le_of_lt h (le_trans (le_trans (lit k g) l) (le_of_eq refl)))
  where
    lit : (k : ℕ) → 20 ≤ k → 2 ^ 64 ≤ 10 ^ k
    lit k g = le_trans (omega arith) (pow-le-pow_right {n = 10} (omega arith) g)

-- ---- the last digits

pub digits_length : (base k n : ℕ) → length (last_digits base k n) ≡ k
unfolding last_digits
digits_length base zero n = refl
digits_length base (suc k) n = length-append (last_digits base k (n / base)) (glyph_of (n % base) ∷ []) ∙ ap (λ (x : ℕ). x + 1) (digits_length base k (n / base)) ∙ add-one k

-- the first one of them, and the rest
digits_first : (base k n : ℕ) → last_digits base (suc k) n ≡ glyph_of ((n / base ^ k) % base) ∷ last_digits base k n
unfolding last_digits
digits_first base zero n = ap (λ (x : ℕ). glyph_of (x % base) ∷ []) (sym (ap (λ (x : ℕ). n / x) (pow-zero base) ∙ div-one n))
digits_first base (suc k) n =
    ap (λ (l : List ℕ). l ++ (glyph_of (n % base) ∷ [])) (digits_first base k (n / base))
    ∙ ap (λ (x : ℕ). glyph_of (x % base) ∷ last_digits base (suc k) n) (div-div-eq-div-mul n base (base ^ k) ∙ ap (λ (x : ℕ). n / x) (sym (pow-succ' base k)))

-- ---- without leading zeros

module _ (b : ℕ) (bs : List ℕ) where
  zero_goes : b ≡ 48 → 0 < length bs → without_zeros (b ∷ bs) ≡ without_zeros bs
  unfolding without_zeros
  zero_goes e h = rw (eq-eqb b 48 e, lt-ltb 0 (length bs) h)

  digit_stays : (b ≡ 48 → 0 < length bs → ⊥) → without_zeros (b ∷ bs) ≡ b ∷ bs
  unfolding without_zeros
  digit_stays h = go (eqb b 48) (ltb 0 (length bs)) (eqb-true b 48) (ltb-true 0 (length bs))
    where
      go : (t u : Bool) → (t ≡ true → b ≡ 48) → (u ≡ true → 0 < length bs) → cond (t && u) (without_zeros bs) (b ∷ bs) ≡ b ∷ bs
      go true true p q = absurd (h (p refl) (q refl))
      go true false p q = refl
      go false u p q = refl

stripped_le : (xs : List ℕ) → length (without_zeros xs) ≤ length xs
unfolding without_zeros
stripped_le [] = omega arith
stripped_le (x ∷ xs) = go (eqb x 48 && ltb 0 (length xs)) (stripped_le xs)
  where
    go : (t : Bool) → length (without_zeros xs) ≤ length xs → length (cond t (without_zeros xs) (x ∷ xs)) ≤ suc (length xs)
    go true h = omega arith
    go false h = omega arith

-- what is left are last digits
stripped_last : (base k n : ℕ) → without_zeros (last_digits base k n) ≡ last_digits base (length (without_zeros (last_digits base k n))) n
unfolding last_digits without_zeros
stripped_last base zero n = refl
stripped_last base (suc k) n =
    subst (λ (l : List ℕ). without_zeros l ≡ last_digits base (length (without_zeros l)) n) (sym (digits_first base k n)) (go (eqb first 48 && ltb 0 (length rest)) (stripped_last base k n))
  where
    first : ℕ
    first = glyph_of ((n / base ^ k) % base)

    rest : List ℕ
    rest = last_digits base k n

    go : (t : Bool) → without_zeros rest ≡ last_digits base (length (without_zeros rest)) n → cond t (without_zeros rest) (first ∷ rest) ≡ last_digits base (length (cond t (without_zeros rest) (first ∷ rest))) n
    go true h = h
    go false h = sym (ap (λ (m : ℕ). last_digits base (suc m) n) (digits_length base k n) ∙ digits_first base k n)

pub numeral_last : (n : ℕ) → last_digits 10 (length (natural_text n)) n ≡ natural_text n
unfolding natural_text
numeral_last n = sym (stripped_last 10 20 n)

pub numeral_few : (n : ℕ) → length (natural_text n) ≤ 20
unfolding natural_text
numeral_few n = subst (λ (k : ℕ). length (without_zeros (last_digits 10 20 n)) ≤ k) (digits_length 10 20 n) (stripped_le (last_digits 10 20 n))

-- ---- the digits of a number that k digits hold

module _ (n k : ℕ) (some : 1 ≤ k) (holds : n < 10 ^ k) where
  zeros_go : (j : ℕ) → without_zeros (last_digits 10 (j + k) n) ≡ without_zeros (last_digits 10 k n)
  zeros_go zero = ap (λ (x : ℕ). without_zeros (last_digits 10 x n)) (zero-add k)
  zeros_go (suc j) =
      let none : n / 10 ^ (j + k) ≡ 0 = div-eq_of_lt (lt_of_lt_of_le holds (pow-le-pow_right {n = 10} (omega arith) {i = k} {j = j + k} (omega arith))) in
      ap (λ (x : ℕ). without_zeros (last_digits 10 x n)) (suc-add j k)
      ∙ ap without_zeros (digits_first 10 (j + k) n)
      ∙ zero_goes (glyph_of ((n / 10 ^ (j + k)) % 10)) (last_digits 10 (j + k) n) (ap (λ (x : ℕ). glyph_of (x % 10)) none) (let l = digits_length 10 (j + k) n in omega arith)
      ∙ zeros_go j

  -- none leads where no fewer digits hold the number
  none_leads : (1 < k → 10 ^ (k - 1) ≤ n) → without_zeros (last_digits 10 k n) ≡ last_digits 10 k n
  none_leads fewest = go k some holds fewest
    where
      one : (m : ℕ) → length (last_digits 10 m n) ≡ m
      one m = digits_length 10 m n

      lead : (m : ℕ) → n < 10 ^ suc m → 10 ^ m ≤ n → glyph_of ((n / 10 ^ m) % 10) ≡ 48 → ⊥
      lead m h l e =
          let p = one-le-pow m 10 (omega arith) in
          let small : n / 10 ^ m < 10 = (div-lt_iff_lt-mul p).1 (subst (λ (x : ℕ). n < x) (pow-succ' 10 m) h) in
          let large : 1 ≤ n / 10 ^ m = (le-div_iff_mul-le p).1 (omega (arith, one-mul (10 ^ m))) in
          let d : (n / 10 ^ m) % 10 ≡ n / 10 ^ m = mod-eq_of_lt small in
          let g : glyph_of ((n / 10 ^ m) % 10) ≡ 48 + n / 10 ^ m = ap (λ (x : ℕ). glyph_of x) d ∙ rw (lt-ltb (n / 10 ^ m) 10 small) in
          omega arith

      go : (k : ℕ) → 1 ≤ k → n < 10 ^ k → (1 < k → 10 ^ (k - 1) ≤ n) → without_zeros (last_digits 10 k n) ≡ last_digits 10 k n
      go zero s h f = absurd (omega arith)
      go (suc m) s h f =
          let e = digits_first 10 m n in
          ap without_zeros e
          ∙ digit_stays (glyph_of ((n / 10 ^ m) % 10)) (last_digits 10 m n) (λ z l. lead m h (subst (λ (x : ℕ). 10 ^ x ≤ n) (less m) (f (let g = one m in omega arith))) z)
          ∙ sym e
        where
          less : (m : ℕ) → suc m - 1 ≡ m
          less m = omega arith

-- so many digits has its numeral
pub numeral_places : (n k : ℕ) → n < 2 ^ 64 → 1 ≤ k → n < 10 ^ k → (1 < k → 10 ^ (k - 1) ≤ n) → k ≡ length (natural_text n)
unfolding natural_text
numeral_places n k w some holds fewest =
    sym (digits_length 10 k n)
    ∙ ap length (sym (none_leads n k some holds fewest) ∙ sym (zeros_go n k some holds (20 - k)) ∙ ap (λ (x : ℕ). without_zeros (last_digits 10 x n)) (all k (few k fewest)))
  where
    few : (k : ℕ) → (1 < k → 10 ^ (k - 1) ≤ n) → k ≤ 20
    few zero f = omega arith
    few (suc zero) f = omega arith
    few (suc (suc k)) f = let l = places_few n (suc (suc k) - 1) w (f (omega arith)) in omega arith

    all : (k : ℕ) → k ≤ 20 → 20 - k + k ≡ 20
    all k h = omega arith

-- ---- by the largest power of ten that is no larger

pub numeral_zero : (n : ℕ) → n ≡ 0 → 1 ≡ length (natural_text n)
numeral_zero n e = numeral_places n 1 (omega arith) (omega arith) (omega arith) (λ g. absurd (omega arith))

pub numeral_log : (n k : ℕ) → n < 2 ^ 64 → 10 ^ k ≤ n → n < 10 * 10 ^ k → k + 1 ≡ length (natural_text n)
numeral_log n k w low high =
    numeral_places n (k + 1) w (omega arith) (subst (λ (x : ℕ). n < x) (sym (ap (λ (x : ℕ). 10 ^ x) (add-one k) ∙ pow-succ' 10 k)) high) (λ g. subst (λ (x : ℕ). 10 ^ x ≤ n) (same k) low)
  where
    same : (k : ℕ) → k ≡ k + 1 - 1
    same k = omega arith
