-- Laws of digits and of the numbers that rows of them tell.
use mathlib.Core.Path.{◌≡◌, refl, sym, ap, ◌∙◌}
use mathlib.Core.Logic.{◌⊎◌, inl, inr}
use mathlib.Core.Bool.{Bool, true, false, cond, ◌&&◌}
use mathlib.Core.List.{List, [], ◌∷◌, ◌++◌}
use Prim.Native.Nat.{ℕ, suc, ◌+◌, ◌-◌, ◌*◌, ◌<◌, ◌≤◌}
use native.Mathlib.Nat.{one-mul, mul-le-mul_right}
use native.Mathlib.Omega.{arith}
use native.Mathlib.Numerals.{add-one}
use lib.Dec.{leb, ltb}
use lib.ListN.{length, drop, get_or, drop_of_length-le}
use lib.Seq.{drop-cons}
use borrow.Author.Tests.{lt-ltb, le-ltb, le-leb, lt-leb, ltb-true, ltb-false, leb-true, leb-false}
use Rattle.std.specs.Prelude.{Some, None}
use Rattle.decimal.specs.Digits.{digit_of, digit_in, are_digits, from_digits, number_of}

module _ (b : ℕ) where
  pub digit_1 : 48 ≤ b → b < 58 → b - 48 ≡ digit_of b
  unfolding digit_of
  digit_1 h k = simp (le-leb 48 b h, le-leb b 57 (omega arith))

  pub digit_3 : 97 ≤ b → b < 103 → b - 87 ≡ digit_of b
  unfolding digit_of
  digit_3 h k =
      simp
      (le-leb 48 b (omega arith), lt-leb b 57 (omega arith), le-leb 65 b (omega arith), lt-leb b 70 (omega arith), le-leb 97 b h, le-leb b 102 (omega arith))

-- ---- a row of digits, from its first byte on

-- a number never falls as digits follow it
value_ge : (base n : ℕ) (bs : List ℕ) → 0 < base → n ≤ from_digits base n bs
unfolding from_digits
value_ge base n [] h = omega arith
value_ge base n (b ∷ bs) h =
    let g = value_ge base (base * n + digit_of b) bs h in
    let k = mul-le-mul_right n h in
    omega (arith, one-mul n)

-- a number past the most stays past it
past : (base n most : ℕ) (bs : List ℕ) → 0 < base → most < n → number_of base n bs most ≡ None
unfolding number_of
past base n most bs h k =
    rw (lt-leb (from_digits base n bs) most (let g = value_ge base n bs h in omega arith)) (never (are_digits base bs))
  where
    never : (t : Bool) → cond (t && false) (Some (from_digits base n bs)) None ≡ None
    never true = refl
    never false = refl

module _ (base n b most : ℕ) (bs : List ℕ) where
  -- a byte that is no digit
  pub number_other : base ≤ digit_of b → number_of base n (b ∷ bs) most ≡ None
  unfolding number_of are_digits
  number_other h = rw (le-ltb (digit_of b) base h)

  -- a digit, after which the number is the rest's
  pub number_digit : digit_of b < base → number_of base n (b ∷ bs) most ≡ number_of base (base * n + digit_of b) bs most
  unfolding number_of are_digits from_digits
  number_digit h = rw (lt-ltb (digit_of b) base h)

-- the digit of a base, or none
none_in : (base b : ℕ) → digit_in base b ≡ None → base ≤ digit_of b
none_in base b = go (ltb (digit_of b) base) (ltb-false (digit_of b) base)
  where
    go : (t : Bool) → (t ≡ false → base ≤ digit_of b) → cond t (Some (digit_of b)) None ≡ None → base ≤ digit_of b
    go true h e = cc
    go false h e = h refl

some_in : (base b d : ℕ) → digit_in base b ≡ Some d → (digit_of b < base) × (digit_of b ≡ d)
some_in base b d = go (ltb (digit_of b) base) (ltb-true (digit_of b) base)
  where
    go : (t : Bool) → (t ≡ true → digit_of b < base) → cond t (Some (digit_of b)) None ≡ Some d → (digit_of b < base) × (digit_of b ≡ d)
    go true h e = (h refl, cc)
    go false h e = cc

pub number_none : (base n most : ℕ) → n ≤ most → number_of base n [] most ≡ Some n
unfolding number_of are_digits from_digits
number_none base n most h = rw (le-leb n most h)

-- ---- a turn of the loop: n so far, and byte i is next

module _ (base n i most : ℕ) (text : List ℕ) (inside : i < length text) where
  next : number_of base n (drop i text) most ≡ number_of base n (get_or text i 0 ∷ drop (suc i) text) most
  next = rw (drop-cons text i 0 inside)

  pub turn_none : digit_in base (get_or text i 0) ≡ None → number_of base n (drop i text) most ≡ None
  turn_none e = next ∙ number_other base n (get_or text i 0) most (drop (suc i) text) (none_in base (get_or text i 0) e)

  pub turn_digit : (d : ℕ) → digit_in base (get_or text i 0) ≡ Some d → number_of base n (drop i text) most ≡ number_of base (base * n + d) (drop (i + 1) text) most
  turn_digit d e =
      let h = some_in base (get_or text i 0) d e in
      next ∙ number_digit base n (get_or text i 0) most (drop (suc i) text) h.0 ∙ rw (h.1, add-one)

  pub turn_past : (d : ℕ) → 0 < base → digit_in base (get_or text i 0) ≡ Some d → most < base * n + d → number_of base n (drop i text) most ≡ None
  turn_past d p e h = turn_digit d e ∙ past base (base * n + d) most (drop (i + 1) text) p h

pub turn_end : (base n i most : ℕ) (text : List ℕ) → length text ≤ i → n ≤ most → number_of base n (drop i text) most ≡ Some n
turn_end base n i most text h k = rw (drop_of_length-le text {i = i} h) (number_none base n most k)

-- ---- a row of digits in two parts

none_is : (base n most k : ℕ) → number_of base n [] most ≡ Some k → n ≡ k
unfolding number_of are_digits from_digits
none_is base n most k = go (leb n most)
  where
    go : (t : Bool) → cond t (Some n) None ≡ Some k → n ≡ k
    go true e = cc
    go false e = let z : ◌≡◌ {A = ℕ} 0 1 = cc in absurd (omega arith)

none_refused : (base n most : ℕ) → number_of base n [] most ≡ None → most < n
unfolding number_of are_digits from_digits
none_refused base n most = go (leb n most) (leb-false n most)
  where
    go : (t : Bool) → (t ≡ false → most < n) → cond t (Some n) None ≡ None → most < n
    go true h e = let z : ◌≡◌ {A = ℕ} 0 1 = cc in absurd (omega arith)
    go false h e = h refl

either : (t : Bool) → (t ≡ true) ⊎ (t ≡ false)
either true = inl refl
either false = inr refl

pub number_then : (base n most k : ℕ) (xs ys : List ℕ) → number_of base n xs most ≡ Some k → number_of base n (xs ++ ys) most ≡ number_of base k ys most
number_then base n most k [] ys e = ap (λ (x : ℕ). number_of base x ys most) (none_is base n most k e)
number_then base n most k (x ∷ xs) ys e = go (λ g. number_then base (base * n + digit_of x) most k xs ys g) (either (ltb (digit_of x) base))
  where
    go : (number_of base (base * n + digit_of x) xs most ≡ Some k → number_of base (base * n + digit_of x) (xs ++ ys) most ≡ number_of base k ys most) → (ltb (digit_of x) base ≡ true) ⊎ (ltb (digit_of x) base ≡ false) → number_of base n (x ∷ (xs ++ ys)) most ≡ number_of base k ys most
    go ih (inl t) =
        let h = ltb-true (digit_of x) base t in
        number_digit base n x most (xs ++ ys) h ∙ ih (sym (number_digit base n x most xs h) ∙ e)
    go ih (inr t) =
        let r = number_other base n x most xs (ltb-false (digit_of x) base t) in
        let z : ◌≡◌ {A = ℕ} 0 1 = cc in
        absurd (omega arith)

pub number_never : (base n most : ℕ) (xs ys : List ℕ) → 0 < base → number_of base n xs most ≡ None → number_of base n (xs ++ ys) most ≡ None
number_never base n most [] ys p e = past base n most ys p (none_refused base n most e)
number_never base n most (x ∷ xs) ys p e = go (λ g. number_never base (base * n + digit_of x) most xs ys p g) (either (ltb (digit_of x) base))
  where
    go : (number_of base (base * n + digit_of x) xs most ≡ None → number_of base (base * n + digit_of x) (xs ++ ys) most ≡ None) → (ltb (digit_of x) base ≡ true) ⊎ (ltb (digit_of x) base ≡ false) → number_of base n (x ∷ (xs ++ ys)) most ≡ None
    go ih (inl t) =
        let h = ltb-true (digit_of x) base t in
        number_digit base n x most (xs ++ ys) h ∙ ih (sym (number_digit base n x most xs h) ∙ e)
    go ih (inr t) = number_other base n x most (xs ++ ys) (ltb-false (digit_of x) base t)

-- what is answered is at most the most
pub number_most : (base n most k : ℕ) (xs : List ℕ) → number_of base n xs most ≡ Some k → k ≤ most
unfolding number_of
number_most base n most k xs = go (are_digits base xs) (leb (from_digits base n xs) most) (leb-true (from_digits base n xs) most)
  where
    go : (t u : Bool) → (u ≡ true → from_digits base n xs ≤ most) → cond (t && u) (Some (from_digits base n xs)) None ≡ Some k → k ≤ most
    go true true h e = let v : from_digits base n xs ≡ k = cc in let l = h refl in omega arith
    go true false h e = let z : ◌≡◌ {A = ℕ} 0 1 = cc in absurd (omega arith)
    go false u h e = let z : ◌≡◌ {A = ℕ} 0 1 = cc in absurd (omega arith)
