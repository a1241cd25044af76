-- Floats as text: a decimal of at most 15 digits with an optional sign, rounded as IEEE 754 says, or the bits in hexadecimal.
use Rattle.std.specs.Prelude.{Bool, true, false, cond, ◌||◌, List, [], ◌∷◌, ◌++◌, ℕ, ◌+◌, ◌-◌, ◌^◌, ltb, eqb, length, Option, None, option_map}
use Rattle.std.specs.Float.Ieee as IEEE
use Rattle.std.specs.Float.{binary32, binary64}
use Rattle.std.specs.Float.Ieee.{to_bits, round, top}
use Rattle.decimal.specs.Digits.{number_of}
use Rattle.decimal.specs.Integers.{is_hex, hex_of}
use Rattle.decimal_float.specs.declared.Format.{Format}
use Rattle.decimal_float.specs.declared.Format.TheVariants.{Binary32, Binary64}

-- the format that IEEE 754 defines
abbrev pub ieee : Format → IEEE.Format
ieee Binary32 = binary32
ieee Binary64 = binary64

-- the weight of the sign's bit
abbrev pub sign_weight : Format → ℕ
sign_weight f = top (ieee f)

-- the hexadecimal digits of a float's bits
abbrev pub hex_digits : Format → ℕ
hex_digits Binary32 = 8
hex_digits Binary64 = 16

-- the bytes before the first point (46), and those after it
unfoldable pub before_point : List ℕ → List ℕ
before_point [] = []
before_point (b ∷ bs) = cond (eqb b 46) [] (b ∷ before_point bs)

unfoldable pub after_point : List ℕ → List ℕ
after_point [] = []
after_point (b ∷ bs) = cond (eqb b 46) bs (after_point bs)

-- the bits of the float that is nearest to a fraction with a sign, ties to even, if there is a numerator
abbrev pub nearest_bits : Format → Bool → Option ℕ → ℕ → Option ℕ
nearest_bits f s r d = option_map (λ m. to_bits (ieee f) (round (ieee f) s m d)) r

-- the float of the digits before a point and after it: one digit at least, 15 at most but for leading zeros, 15 at most after the point
unfoldable pub fraction_of : Format → Bool → List ℕ → List ℕ → Option ℕ
fraction_of f s whole part =
    cond (eqb (length whole + length part) 0 || ltb 15 (length part)) None
    (nearest_bits f s (number_of 10 0 (whole ++ part) (10 ^ 15 - 1)) (10 ^ length part))

-- the float of the digits in a text, of which one byte may be a point
unfoldable pub size_of : Format → Bool → List ℕ → Option ℕ
size_of f s text = fraction_of f s (before_point text) (after_point text)

-- the bits of the float that a text tells: 0x and its bits, or a decimal after - (45), + (43) or no sign
unfoldable pub float_of : Format → List ℕ → Option ℕ
float_of f [] = None
float_of f (b ∷ bs) =
    cond (is_hex (b ∷ bs)) (hex_of (b ∷ bs) (hex_digits f))
    (cond (eqb b 45) (size_of f true bs) (cond (eqb b 43) (size_of f false bs) (size_of f false (b ∷ bs))))
