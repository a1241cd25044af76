-- The bits of the nearest float to m / d, from the quotient's first 63 binary digits.
use mathlib.Core.Path.{◌≡◌, refl, sym, ap, ◌∙◌, subst}
use mathlib.Core.Logic.{◌⊎◌, inl, inr}
use mathlib.Core.Bool.{Bool, true, false, cond}
use Prim.Native.Nat.{ℕ, suc, ◌+◌, ◌-◌, ◌*◌, ◌/◌, ◌%◌, ◌^◌, ◌<◌, ◌≤◌, compare, Ordering}
use native.Mathlib.Nat.{le_trans, le_of_eq, lt_of_lt_of_le, lt_of_le_of_lt, lt_of_not-le, not-le_of_lt, eq-or-lt_of_le, mul_comm, mul_assoc, mul_left_comm, mul_right_comm, add_assoc, mul-le-mul_right, mul-lt-mul_of_pos_right, mul-pos, zero-mul, mul-suc, add-mul, one-mul, mul-div_cancel, le-div_iff_mul-le, div-lt_iff_lt-mul}
use native.Mathlib.Omega.{arith}
use lib.Pow.{pow-add, pow_pos, pow_mono, pow-lt}
use lib.Ieee.{Float, nan, inf, fin, Format, binary32, binary64, prec, emax, low, hid, top, up, down, span, climb, size, nearest, odd, units, round, to_bits}
use lib.Ieee.Digits.{size-lt, size-le}
use lib.Ieee.Fits.{round_is, nearest-le, down_pos}
use lib.Ieee.Exact.{HasValue, units_val}
use lib.Ieee.Scale.{round_same}
use lib.Ieee.Nearest.{closest, closest_same, nearest-ge}
use Rattle.decimal_float.specs.declared.Sizes.{Sizes}
use Rattle.decimal_float.specs.declared.Quotient.{Quotient}
use Rattle.decimal_float.specs.Division.{Divided, Rounded}
use Rattle.decimal_float.proofs.DivisionLaws.{closest_is}

-- ---- how many binary digits

size_gt : (n j : ℕ) → 2 ^ j ≤ n → j < size n
size_gt n j h = lt_of_not-le (λ (g : size n ≤ j). not-le_of_lt (lt_of_lt_of_le (size-lt n) (pow_mono g)) h)

size_is : (n z : ℕ) → 2 ^ z ≤ n → n < 2 ^ (z + 1) → size n ≡ z + 1
size_is n z h k = let a = size_gt n z h in let b = size-le n (z + 1) k in omega arith

-- ---- the bits of a value

to_bits_value : (f : Format) (x : Float) (s : Bool) (g : ℕ) → HasValue x s g (2 ^ low f) → to_bits f x ≡ cond s (top f) 0 + (size g - prec f) * hid f + g / 2 ^ (size g - prec f)
unfolding to_bits
to_bits_value f nan s g v = absurd v
to_bits_value f (inf t) s g v = absurd v
to_bits_value f (fin t m e) s g v =
    let n : m * up e * 2 ^ low f / down e ≡ g = ap (λ (x : ℕ). x / down e) v.1 ∙ mul-div_cancel g (down_pos e) in
    ap (λ (x : ℕ). cond t (top f) 0 + (size x - prec f) * hid f + x / 2 ^ (size x - prec f)) n
    ∙ ap (λ (b : Bool). cond b (top f) 0 + (size g - prec f) * hid f + g / 2 ^ (size g - prec f)) v.0

-- ---- q units of 2 ^ k, where q has p + 1 binary digits, or one more in a carry

fields_are : (p k q : ℕ) → 2 ^ p ≤ q → q ≤ 2 ^ (p + 1) → (size (q * 2 ^ k) - (p + 1)) * 2 ^ p + q * 2 ^ k / 2 ^ (size (q * 2 ^ k) - (p + 1)) ≡ k * 2 ^ p + q
fields_are p k q a b = go (eq-or-lt_of_le b)
  where
    by_size : (z : ℕ) → size (q * 2 ^ k) ≡ z → (size (q * 2 ^ k) - (p + 1)) * 2 ^ p + q * 2 ^ k / 2 ^ (size (q * 2 ^ k) - (p + 1)) ≡ (z - (p + 1)) * 2 ^ p + q * 2 ^ k / 2 ^ (z - (p + 1))
    by_size z e = ap (λ (x : ℕ). (x - (p + 1)) * 2 ^ p + q * 2 ^ k / 2 ^ (x - (p + 1))) e

    go : (q ≡ 2 ^ (p + 1)) ⊎ (q < 2 ^ (p + 1)) → (size (q * 2 ^ k) - (p + 1)) * 2 ^ p + q * 2 ^ k / 2 ^ (size (q * 2 ^ k) - (p + 1)) ≡ k * 2 ^ p + q
    go (inr h) =
        let lo : 2 ^ (p + k) ≤ q * 2 ^ k = le_trans (le_of_eq (pow-add 2 p k)) (mul-le-mul_right (2 ^ k) a) in
        let hi : q * 2 ^ k < 2 ^ (p + k + 1) = lt_of_lt_of_le (mul-lt-mul_of_pos_right h (pow_pos k)) (le_of_eq (sym (pow-add 2 (p + 1) k) ∙ ap (λ (x : ℕ). 2 ^ x) (omega arith))) in
        by_size (p + k + 1) (size_is (q * 2 ^ k) (p + k) lo hi)
        ∙ ap (λ (x : ℕ). x * 2 ^ p + q * 2 ^ k / 2 ^ x) (omega arith)
        ∙ ap (λ (x : ℕ). k * 2 ^ p + x) (mul-div_cancel q (pow_pos k))
    go (inl e) =
        let g : q * 2 ^ k ≡ 2 ^ (p + 1 + k) = ap (λ (x : ℕ). x * 2 ^ k) e ∙ sym (pow-add 2 (p + 1) k) in
        let hi : q * 2 ^ k < 2 ^ (p + 1 + k + 1) = lt_of_le_of_lt (le_of_eq g) (pow-lt (omega arith)) in
        let d : q * 2 ^ k ≡ 2 ^ p * 2 ^ (k + 1) = g ∙ ap (λ (x : ℕ). 2 ^ x) (omega arith) ∙ pow-add 2 p (k + 1) in
        let t : 2 ^ (p + 1) ≡ 2 ^ p + 2 ^ p = pow-add 2 p 1 ∙ omega arith in
        by_size (p + 1 + k + 1) (size_is (q * 2 ^ k) (p + 1 + k) (le_of_eq (sym g)) hi)
        ∙ ap (λ (x : ℕ). x * 2 ^ p + q * 2 ^ k / 2 ^ x) (omega arith)
        ∙ ap (λ (x : ℕ). (k + 1) * 2 ^ p + x / 2 ^ (k + 1)) d
        ∙ ap (λ (x : ℕ). (k + 1) * 2 ^ p + x) (mul-div_cancel (2 ^ p) (pow_pos (k + 1)))
        ∙ (let u : (k + 1) * 2 ^ p ≡ k * 2 ^ p + 2 ^ p = add-mul k 1 (2 ^ p) ∙ ap (λ (x : ℕ). k * 2 ^ p + x) (one-mul (2 ^ p)) in omega arith)

-- ---- the two formats in numbers

pub formats : (f : Format) → (prec f ≡ prec f - 1 + 1) × (24 ≤ prec f) × (prec f ≤ 53) × (127 ≤ emax f) × (emax f ≤ 1023)
formats binary32 = (refl, omega arith, omega arith, omega arith, omega arith)
formats binary64 = (refl, omega arith, omega arith, omega arith, omega arith)

-- the bits fit a word, and so does the exponent's part
pub bits_fit : (f : Format) (s : Bool) (steps q : ℕ) → q ≤ 2 ^ prec f → cond s (top f) 0 + ((emax f + 61 - steps) * 2 ^ (prec f - 1) + q) < 2 ^ 64
bits_fit binary32 true steps q h = omega arith
bits_fit binary32 false steps q h = omega arith
bits_fit binary64 true steps q h = omega arith
bits_fit binary64 false steps q h = omega arith

pub field_is : (f : Format) (steps : ℕ) → (emax f + 61 - steps) * 2 ^ (prec f - 1) % 2 ^ 64 ≡ (emax f + 61 - steps) * 2 ^ (prec f - 1)
field_is binary32 steps = omega arith
field_is binary64 steps = omega arith

-- 63 binary digits cut to the format's: a leading digit, and the others
cut_digits : (f : Format) (whole : ℕ) → 2 ^ 62 ≤ whole → whole < 2 ^ 63 → (2 ^ (prec f - 1) ≤ whole / 2 ^ (63 - prec f)) × (whole / 2 ^ (63 - prec f) < 2 ^ prec f)
cut_digits binary32 whole a b = (omega arith, omega arith)
cut_digits binary64 whole a b = (omega arith, omega arith)

module _ (f : Format) (s : Bool) (m d whole rest steps : ℕ) (parts : m * 2 ^ steps ≡ d * whole + rest) (small : rest < d) (lo : 2 ^ 62 ≤ whole) (hi : whole < 2 ^ 63) (few : steps ≤ 113) where
  abbrev a : ℕ
  a = d * whole + rest

  -- the binary digits that the format's units have past those of the division
  abbrev t : ℕ
  t = low f - steps

  abbrev k : ℕ
  k = t + (63 - prec f)

  abbrev q : ℕ
  q = closest a (d * 2 ^ (63 - prec f))

  d_pos : 0 < d
  d_pos = omega (arith, small)

  numerator : m * 2 ^ low f ≡ a * 2 ^ t
  numerator =
      let z = formats f in
      ap (λ (x : ℕ). m * 2 ^ x) (let h = few in omega arith) ∙ ap (λ (x : ℕ). m * x) (pow-add 2 steps t) ∙ sym (mul_assoc m (2 ^ steps) (2 ^ t)) ∙ ap (λ (x : ℕ). x * 2 ^ t) parts

  a_low : 2 ^ 62 * d ≤ a
  a_low = let h : 2 ^ 62 * d ≤ whole * d = mul-le-mul_right d lo in let e = mul_comm whole d in omega arith

  a_high : a < 2 ^ 63 * d
  a_high =
      let h : suc whole * d ≤ 2 ^ 63 * d = mul-le-mul_right d hi in
      let e : suc whole * d ≡ d * whole + d = mul_comm (suc whole) d ∙ mul-suc d whole in
      let l = small in
      omega arith

  digits : size (m * 2 ^ low f / d) ≡ 62 + t + 1
  digits =
      let low' : 2 ^ (62 + t) * d ≤ a * 2 ^ t = le_trans (le_of_eq (ap (λ (x : ℕ). x * d) (pow-add 2 62 t) ∙ mul_right_comm (2 ^ 62) (2 ^ t) d)) (mul-le-mul_right (2 ^ t) a_low) in
      let high' : a * 2 ^ t < 2 ^ (62 + t + 1) * d = lt_of_lt_of_le (mul-lt-mul_of_pos_right a_high (pow_pos t)) (le_of_eq (mul_right_comm (2 ^ 63) d (2 ^ t) ∙ ap (λ (x : ℕ). x * d) (sym (pow-add 2 63 t) ∙ ap (λ (x : ℕ). 2 ^ x) (omega arith)))) in
      ap (λ (x : ℕ). size (x / d)) numerator
      ∙ size_is (a * 2 ^ t / d) (62 + t) ((le-div_iff_mul-le d_pos).1 low') ((div-lt_iff_lt-mul d_pos).1 high')

  dropped : size (m * 2 ^ low f / d) - prec f ≡ k
  dropped = let e = digits in let z = formats f in omega arith

  kept : closest (m * 2 ^ low f) (d * 2 ^ k) ≡ q
  kept =
      ap (λ (x : ℕ). closest x (d * 2 ^ k)) numerator
      ∙ closest_same (a * 2 ^ t) (d * 2 ^ k) a (d * 2 ^ (63 - prec f)) (mul-pos d_pos (pow_pos k)) (mul-pos d_pos (pow_pos (63 - prec f)))
      (ap (λ (x : ℕ). a * 2 ^ t * (d * x)) refl ∙ mul_assoc a (2 ^ t) (d * 2 ^ (63 - prec f)) ∙ ap (λ (x : ℕ). a * x) (mul_left_comm (2 ^ t) d (2 ^ (63 - prec f)) ∙ ap (λ (x : ℕ). d * x) (sym (pow-add 2 t (63 - prec f)))))

  round_units : round f s m d ≡ units f s q k
  round_units =
      round_is f s m d
      ∙ ap (λ (x : ℕ). units f s (closest (m * 2 ^ low f) (d * 2 ^ x)) x) dropped
      ∙ ap (λ (x : ℕ). units f s x k) kept

  -- how what is cut off compares with a half
  abbrev side : Ordering
  side = compare ((d * (whole % 2 ^ (63 - prec f)) + rest) * 2) (d * 2 ^ (63 - prec f))

  q_is : q ≡ nearest (whole / 2 ^ (63 - prec f)) side
  q_is = closest_is d whole rest (2 ^ (63 - prec f)) small (pow_pos (63 - prec f))

  pub q_low : 2 ^ (prec f - 1) ≤ q
  q_low = le_trans (cut_digits f whole lo hi).0 (le_trans (nearest-ge (whole / 2 ^ (63 - prec f)) side) (le_of_eq (sym q_is)))

  pub q_high : q ≤ 2 ^ prec f
  q_high = le_trans (le_of_eq q_is) (le_trans (nearest-le (whole / 2 ^ (63 - prec f)) side) (cut_digits f whole lo hi).1)

  under : q * 2 ^ k < 2 ^ (low f + suc (emax f))
  under =
      let z = formats f in
      lt_of_le_of_lt (mul-le-mul_right (2 ^ k) q_high) (lt_of_le_of_lt (le_of_eq (sym (pow-add 2 (prec f) k))) (pow-lt (omega arith)))

  value : HasValue (round f s m d) s (q * 2 ^ k) (2 ^ low f)
  value = subst (λ (x : Float). HasValue x s (q * 2 ^ k) (2 ^ low f)) (sym round_units) (units_val f s q k under)

  exponent : k ≡ emax f + 61 - steps
  exponent = let z = formats f in omega arith

  pub bits_are : to_bits f (round f s m d) ≡ cond s (top f) 0 + ((emax f + 61 - steps) * 2 ^ (prec f - 1) + q)
  bits_are =
      let z = formats f in
      let p = prec f - 1 in
      to_bits_value f (round f s m d) s (q * 2 ^ k) value
      ∙ add_assoc (cond s (top f) 0) ((size (q * 2 ^ k) - prec f) * hid f) (q * 2 ^ k / 2 ^ (size (q * 2 ^ k) - prec f))
      ∙ ap (λ (x : ℕ). cond s (top f) 0 + x)
      (ap (λ (x : ℕ). (size (q * 2 ^ k) - x) * hid f + q * 2 ^ k / 2 ^ (size (q * 2 ^ k) - x)) z.0
      ∙ fields_are p k q q_low (subst (λ (x : ℕ). q ≤ 2 ^ x) z.0 q_high)
      ∙ ap (λ (x : ℕ). x * 2 ^ p + q) exponent)

-- ---- zero

zero_over_one : (f : Format) (s : Bool) → to_bits f (round f s 0 1) ≡ cond s (top f) 0
unfolding to_bits round size units odd span climb
zero_over_one binary32 true = refl
zero_over_one binary32 false = refl
zero_over_one binary64 true = refl
zero_over_one binary64 false = refl

pub bits_zero : (f : Format) (s : Bool) (d : ℕ) → 0 < d → to_bits f (round f s 0 d) ≡ cond s (top f) 0
bits_zero f s d h = ap (to_bits f) (round_same f s 0 d 0 1 h (omega arith) (zero-mul 1 ∙ sym (zero-mul d))) ∙ zero_over_one f s

-- ---- in the code's own terms

module _ (f : Format) (s : Bool) (m d : ℕ) (z : Sizes) (quotient : Quotient) (r sign : ℕ) (p-is : z.precision ≡ prec f) (e-is : z.emax ≡ emax f) (sign-is : sign ≡ cond s (top f) 0) (divided : Divided m d quotient) (rounded : Rounded quotient (63 - z.precision) r) where
  field : (z.emax + 61 - quotient.steps) * 2 ^ (z.precision - 1) % 2 ^ 64 ≡ (emax f + 61 - quotient.steps) * 2 ^ (prec f - 1)
  field =
      ap (λ (x : ℕ). (x + 61 - quotient.steps) * 2 ^ (z.precision - 1) % 2 ^ 64) e-is
      ∙ ap (λ (x : ℕ). (emax f + 61 - quotient.steps) * 2 ^ (x - 1) % 2 ^ 64) p-is
      ∙ field_is f quotient.steps

  significand : r ≡ closest (d * quotient.whole + quotient.rest) (d * 2 ^ (63 - prec f))
  significand = rounded d divided.small ∙ ap (λ (x : ℕ). closest (d * quotient.whole + quotient.rest) (d * 2 ^ (63 - x))) p-is

  sum : sign + ((z.emax + 61 - quotient.steps) * 2 ^ (z.precision - 1) % 2 ^ 64 + r) ≡ cond s (top f) 0 + ((emax f + 61 - quotient.steps) * 2 ^ (prec f - 1) + closest (d * quotient.whole + quotient.rest) (d * 2 ^ (63 - prec f)))
  sum = ap (λ (x : ℕ). x + ((z.emax + 61 - quotient.steps) * 2 ^ (z.precision - 1) % 2 ^ 64 + r)) sign-is ∙ ap (λ (x : ℕ). cond s (top f) 0 + (x + r)) field ∙ ap (λ (x : ℕ). cond s (top f) 0 + ((emax f + 61 - quotient.steps) * 2 ^ (prec f - 1) + x)) significand

  pub sum_fits : sign + ((z.emax + 61 - quotient.steps) * 2 ^ (z.precision - 1) % 2 ^ 64 + r) < 2 ^ 64
  sum_fits = rw sum (bits_fit f s quotient.steps _ (q_high f s m d quotient.whole quotient.rest quotient.steps divided.parts divided.small divided.low divided.high divided.few))

  pub sum_is : sign + ((z.emax + 61 - quotient.steps) * 2 ^ (z.precision - 1) % 2 ^ 64 + r) ≡ to_bits f (round f s m d)
  sum_is = sum ∙ sym (bits_are f s m d quotient.whole quotient.rest quotient.steps divided.parts divided.small divided.low divided.high divided.few)
