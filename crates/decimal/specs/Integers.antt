-- Integers as text: decimal with an optional sign, or 0x and hexadecimal digits.
use Rattle.std.specs.Prelude.{Bool, cond, ◌&&◌, List, [], ◌∷◌, ℕ, ◌+◌, ◌-◌, ◌%◌, ◌^◌, leb, eqb, length, drop, get_or, Option, None, option_map}
use Rattle.decimal.specs.Digits.{number_of}

-- the number of a row of one decimal digit or more, if it is at most `most`
unfoldable pub natural_of : List ℕ → ℕ → Option ℕ
natural_of [] most = None
natural_of (b ∷ bs) most = number_of 10 0 (b ∷ bs) most

-- minus n in 64-bit two's complement
abbrev pub minus : ℕ → ℕ
minus n = (2 ^ 64 - n) % 2 ^ 64

-- the integer that a text tells, if it is from minus `lowest` to `highest`, in 64-bit two's complement: - (45), + (43) or no sign
unfoldable pub integer_of : List ℕ → ℕ → ℕ → Option ℕ
integer_of [] lowest highest = None
integer_of (b ∷ bs) lowest highest =
    cond (eqb b 45) (option_map minus (natural_of bs lowest))
    (cond (eqb b 43) (natural_of bs highest) (natural_of (b ∷ bs) highest))

-- whether a text begins with 0x (48, 120)
unfoldable pub is_hex : List ℕ → Bool
is_hex text = leb 2 (length text) && (eqb (get_or text 0 0) 48 && eqb (get_or text 1 0) 120)

-- the number that 0x and `count` hexadecimal digits tell
unfoldable pub hex_of : List ℕ → ℕ → Option ℕ
hex_of text count = cond (is_hex text && eqb (length text) (2 + count)) (number_of 16 0 (drop 2 text) (2 ^ 64 - 1)) None
