-- Rows of ASCII digits in a base of at most 16, and the numbers that they tell.
use Rattle.std.specs.Prelude.{Bool, true, cond, ◌&&◌, List, [], ◌∷◌, ℕ, ◌+◌, ◌-◌, ◌*◌, leb, ltb, Option, Some, None}

-- whether low ≤ b ≤ high
abbrev pub in_range : ℕ → ℕ → ℕ → Bool
in_range b low high = leb low b && leb b high

-- a digit's value: 0 to 9, A to F, a to f; 16 for any other byte
unfoldable pub digit_of : ℕ → ℕ
digit_of b = cond (in_range b 48 57) (b - 48) (cond (in_range b 65 70) (b - 55) (cond (in_range b 97 102) (b - 87) 16))

-- a digit's value, if it is a digit of the base
abbrev pub digit_in : ℕ → ℕ → Option ℕ
digit_in base b = cond (ltb (digit_of b) base) (Some (digit_of b)) None

-- whether every byte is a digit of the base
unfoldable pub are_digits : ℕ → List ℕ → Bool
are_digits base [] = true
are_digits base (b ∷ bs) = ltb (digit_of b) base && are_digits base bs

-- the number that a row of digits tells, with those of n before it
unfoldable pub from_digits : ℕ → ℕ → List ℕ → ℕ
from_digits base n [] = n
from_digits base n (b ∷ bs) = from_digits base (base * n + digit_of b) bs

-- that number, if the bytes are digits and it is at most `most`
unfoldable pub number_of : ℕ → ℕ → List ℕ → ℕ → Option ℕ
number_of base n text most = cond (are_digits base text && leb (from_digits base n text) most) (Some (from_digits base n text)) None
