-- Laws of the long division of a fraction, one binary digit a turn, and of its rounding.
use mathlib.Core.Path.{◌≡◌, refl, sym, ap, ◌∙◌, subst}
use mathlib.Core.Bool.{not}
use Prim.Native.Nat.{ℕ, zero, suc, ◌+◌, ◌-◌, ◌*◌, ◌/◌, ◌%◌, ◌^◌, ◌<◌, ◌≤◌, compare, Ordering}
use native.Mathlib.Nat.{lt_of_not-le, not-le_of_lt, mul-le-mul_right, mul_comm, mul_assoc, mul_left_comm, mul-add, mul-suc, one-mul, mul-one, mul-le-mul_left, pow-suc, pow-succ', div-add-mod, mod-lt, mod-eq_of_lt, div-eq_of_lt, mul-add-div, div-div-eq-div-mul, add-mul-mod_self_left, add-zero}
use native.Mathlib.Numerals.{add-one}
use native.Mathlib.Omega.{arith}
use lib.Dec.{T, is_le, compare_is_eq, eqb, leb→le, nleb→lt, eqb→eq, eqb_refl}
use lib.Pow.{pow_pos, pow-lt}
use lib.Ieee.{nearest}
use lib.Ieee.Nearest.{closest}

-- ---- the division

module _ (m d whole rest steps : ℕ) (parts : m * 2 ^ steps ≡ d * whole + rest) where
  -- a turn that brings the digit 0
  pub turn_0 : m * 2 ^ (steps + 1) ≡ d * (2 * whole) + 2 * rest
  turn_0 =
      let e : m * 2 ^ (steps + 1) ≡ m * 2 ^ steps * 2 = rw (add-one, pow-suc) (sym (mul_assoc m (2 ^ steps) 2)) in
      let g : d * (2 * whole) ≡ 2 * (d * whole) = mul_left_comm d 2 whole in
      omega arith

  -- a turn that brings the digit 1
  pub turn_1 : d ≤ 2 * rest → m * 2 ^ (steps + 1) ≡ d * (2 * whole + 1) + (2 * rest - d)
  turn_1 h =
      let e = turn_0 in
      let g : d * (2 * whole + 1) ≡ d * (2 * whole) + d = mul-add d (2 * whole) 1 ∙ ap (λ (x : ℕ). d * (2 * whole) + x) (mul-one d) in
      omega arith

  -- after 113 turns there are 63 digits
  pub enough : 0 < m → d ≤ 10 ^ 15 → rest < d → 113 ≤ steps → steps ≤ 113 → 2 ^ 62 ≤ whole
  enough h k l a b =
      let s : steps ≡ 113 = omega arith in
      let e : m * 2 ^ 113 ≡ d * whole + rest = subst (λ (x : ℕ). m * 2 ^ x ≡ d * whole + rest) s parts in
      let g : d * whole ≤ 10 ^ 15 * whole = mul-le-mul_right whole k in
      omega arith

-- the parts before the first turn
pub first_parts : (m d : ℕ) → m * 2 ^ 0 ≡ d * (m / d) + m % d
first_parts m d = mul-one m ∙ sym (div-add-mod m d)

-- ---- the rounding

compare_lt : (a b : ℕ) → a < b → compare a b ≡ Ordering.lt
compare_lt a b h = go (compare a b) (nleb→lt a b) (eqb→eq a b)
  where
    go : (o : Ordering) → (T (not (is_le o)) → b < a) → (T (compare_is_eq o) → a ≡ b) → o ≡ Ordering.lt
    go Ordering.lt k e = refl
    go Ordering.eq k e = absurd (let g = e tt in omega arith)
    go Ordering.gt k e = absurd (let g = k tt in omega arith)

compare_gt : (a b : ℕ) → b < a → compare a b ≡ Ordering.gt
compare_gt a b h = go (compare a b) (leb→le a b)
  where
    go : (o : Ordering) → (T (is_le o) → a ≤ b) → o ≡ Ordering.gt
    go Ordering.lt k = absurd (let g = k tt in omega arith)
    go Ordering.eq k = absurd (let g = k tt in omega arith)
    go Ordering.gt k = refl

compare_eq : (a b : ℕ) → a ≡ b → compare a b ≡ Ordering.eq
compare_eq a b h = go (compare a b) (leb→le a b) (nleb→lt a b) (eqb→eq a b) (λ (e : a ≡ b). subst (λ (x : ℕ). T (eqb a x)) e (eqb_refl a))
  where
    go : (o : Ordering) → (T (is_le o) → a ≤ b) → (T (not (is_le o)) → b < a) → (T (compare_is_eq o) → a ≡ b) → (a ≡ b → T (compare_is_eq o)) → o ≡ Ordering.eq
    go Ordering.lt k l e n = absurd (n h)
    go Ordering.eq k l e n = refl
    go Ordering.gt k l e n = absurd (n h)

-- d whole + rest, divided by d w: what is kept of `whole`, and what is cut off it
module _ (d whole rest w : ℕ) (small : rest < d) (wide : 0 < w) where
  kept_is : (d * whole + rest) / (d * w) ≡ whole / w
  kept_is =
      sym (div-div-eq-div-mul (d * whole + rest) d w)
      ∙ ap (λ (x : ℕ). x / w) (mul-add-div (let h = small in omega arith) whole rest ∙ ap (λ (x : ℕ). whole + x) (div-eq_of_lt small) ∙ add-zero whole)

  cut_is : (d * whole + rest) % (d * w) ≡ d * (whole % w) + rest
  cut_is =
      let k = whole / w in
      let c = whole % w in
      let e : d * whole ≡ d * (w * k) + d * c = ap (λ (x : ℕ). d * x) (sym (div-add-mod whole w)) ∙ mul-add d (w * k) c in
      let g : d * (w * k) ≡ d * w * k = sym (mul_assoc d w k) in
      let a : d * whole + rest ≡ d * c + rest + d * w * k = omega arith in
      let l : d * c + d ≤ d * w = rw (← (mul-suc d c)) (mul-le-mul_left d (mod-lt whole wide)) in
      ap (λ (x : ℕ). x % (d * w)) a ∙ add-mul-mod_self_left (d * c + rest) (d * w) k ∙ mod-eq_of_lt (let h = small in omega arith)

  pub closest_is : closest (d * whole + rest) (d * w) ≡ nearest (whole / w) (compare ((d * (whole % w) + rest) * 2) (d * w))
  closest_is = ap (λ (x : ℕ). nearest x (compare ((d * whole + rest) % (d * w) * 2) (d * w))) kept_is ∙ ap (λ (x : ℕ). nearest (whole / w) (compare (x * 2) (d * w))) cut_is

  module _ (half : ℕ) (twice : w ≡ 2 * half) where
    width_is : d * w ≡ d * half * 2
    width_is = ap (λ (x : ℕ). d * x) twice ∙ mul_left_comm d 2 half ∙ mul_comm 2 (d * half)

    pub round_down : whole % w < half → whole / w ≡ closest (d * whole + rest) (d * w)
    round_down h =
        let l : d * (whole % w) + d ≤ d * half = rw (← (mul-suc d (whole % w))) (mul-le-mul_left d h) in
        let e = width_is in
        let k = small in
        sym (closest_is ∙ ap (λ (o : Ordering). nearest (whole / w) o) (compare_lt ((d * (whole % w) + rest) * 2) (d * w) (omega arith)))

    pub round_up : half < whole % w → whole / w + 1 ≡ closest (d * whole + rest) (d * w)
    round_up h =
        let l : d * half + d ≤ d * (whole % w) = rw (← (mul-suc d half)) (mul-le-mul_left d h) in
        let e = width_is in
        let k = small in
        add-one (whole / w) ∙ sym (closest_is ∙ ap (λ (o : Ordering). nearest (whole / w) o) (compare_gt ((d * (whole % w) + rest) * 2) (d * w) (omega arith)))

    pub round_past : whole % w ≡ half → (rest ≡ 0 → ⊥) → whole / w + 1 ≡ closest (d * whole + rest) (d * w)
    round_past h n =
        let l : d * (whole % w) ≡ d * half = ap (λ (x : ℕ). d * x) h in
        let e = width_is in
        add-one (whole / w) ∙ sym (closest_is ∙ ap (λ (o : Ordering). nearest (whole / w) o) (compare_gt ((d * (whole % w) + rest) * 2) (d * w) (omega (arith, n))))

    pub round_tie : whole % w ≡ half → rest ≡ 0 → whole / w + whole / w % 2 ≡ closest (d * whole + rest) (d * w)
    round_tie h n =
        let l : d * (whole % w) ≡ d * half = ap (λ (x : ℕ). d * x) h in
        let e = width_is in
        sym (closest_is ∙ ap (λ (o : Ordering). nearest (whole / w) o) (compare_eq ((d * (whole % w) + rest) * 2) (d * w) (omega arith)))

-- a shifted one
pub one_shifted : (k : ℕ) → k < 64 → 1 * 2 ^ k % 2 ^ 64 ≡ 2 ^ k
one_shifted k h = ap (λ (x : ℕ). x % 2 ^ 64) (one-mul (2 ^ k)) ∙ mod-eq_of_lt (pow-lt h)

-- a power of two and its half
pub two_halves : (k : ℕ) → 0 < k → 2 ^ k ≡ 2 * 2 ^ (k - 1)
two_halves zero h = elim h [ ]
two_halves (suc k) h = rw (suc_less k) (pow-succ' 2 k)
  where
    suc_less : (n : ℕ) → suc n - 1 ≡ n
    suc_less n = omega arith

-- ---- the rounding in the code's own terms

module _ (whole rest drop : ℕ) (low : 0 < drop) (high : drop < 63) where
  abbrev Wide : ℕ
  Wide = 1 * 2 ^ drop % 2 ^ 64

  abbrev Half : ℕ
  Half = 1 * 2 ^ (drop - 1) % 2 ^ 64

  abbrev Rounds : ℕ → Type 0
  Rounds r = (d : ℕ) → rest < d → r ≡ closest (d * whole + rest) (d * 2 ^ drop)

  wide_is : Wide ≡ 2 ^ drop
  wide_is = one_shifted drop (omega arith)

  -- the weight that is cut at is no zero
  pub wide_pos : 0 < Wide
  wide_pos = rw wide_is (pow_pos drop)

  half_is : Half ≡ 2 ^ (drop - 1)
  half_is = one_shifted (drop - 1) (omega arith)

  cut_below : whole % Wide < Half → whole % 2 ^ drop < 2 ^ (drop - 1)
  cut_below h = rw half_is at (rw wide_is at h)

  cut_above : Half < whole % Wide → 2 ^ (drop - 1) < whole % 2 ^ drop
  cut_above h = rw half_is at (rw wide_is at h)

  cut_at : whole % Wide ≡ Half → whole % 2 ^ drop ≡ 2 ^ (drop - 1)
  cut_at h = rw half_is at (rw wide_is at h)

  pub rounds_down : whole % Wide < Half → Rounds (whole / 2 ^ drop)
  rounds_down h d s = round_down d whole rest (2 ^ drop) s (pow_pos drop) (2 ^ (drop - 1)) (two_halves drop low) (cut_below h)

  pub rounds_up : Half < whole % Wide → Rounds (whole / 2 ^ drop + 1)
  rounds_up h d s = round_up d whole rest (2 ^ drop) s (pow_pos drop) (2 ^ (drop - 1)) (two_halves drop low) (cut_above h)

  pub rounds_past : whole % Wide ≡ Half → (rest ≡ 0 → ⊥) → Rounds (whole / 2 ^ drop + 1)
  rounds_past h n d s = round_past d whole rest (2 ^ drop) s (pow_pos drop) (2 ^ (drop - 1)) (two_halves drop low) (cut_at h) n

  pub rounds_tie : whole % Wide ≡ Half → rest ≡ 0 → Rounds (whole / 2 ^ drop + whole / 2 ^ drop % 2)
  rounds_tie h n d s = round_tie d whole rest (2 ^ drop) s (pow_pos drop) (2 ^ (drop - 1)) (two_halves drop low) (cut_at h) n

-- ---- a turn of the loop

abbrev pub Turned : ℕ → ℕ → ℕ → ℕ → ℕ → Type 0
Turned m d whole rest steps = (m * 2 ^ steps ≡ d * whole + rest) × (rest < d) × (whole < 2 ^ 63) × (steps ≤ 113)

-- so with fewer digits there were fewer turns
pub turns_left : (m d whole rest steps : ℕ) → 0 < m → d ≤ 10 ^ 15 → Turned m d whole rest steps → whole < 2 ^ 62 → steps < 113
turns_left m d whole rest steps h k was few = lt_of_not-le (λ (g : 113 ≤ steps). not-le_of_lt few (enough m d whole rest steps was.0 h k was.1 g was.3))

module _ (m d whole rest steps w r : ℕ) (was : Turned m d whole rest steps) (few : whole < 2 ^ 62) (more : steps < 113) where
  pub turned_0 : 2 * rest < d → w ≡ 2 * whole → r ≡ 2 * rest → Turned m d w r (steps + 1)
  turned_0 h e g = rw (e, g) (turn_0 m d whole rest steps was.0, omega arith, omega arith, omega arith)

  pub turned_1 : d ≤ 2 * rest → w ≡ 2 * whole + 1 → r ≡ 2 * rest - d → Turned m d w r (steps + 1)
  turned_1 h e g = rw (e, g) (turn_1 m d whole rest steps was.0 h, omega arith, omega arith, omega arith)
