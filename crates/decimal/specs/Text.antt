-- Numbers as text, their digits the first one first; and what a writer answers and leaves.
use Rattle.std.specs.Prelude.{cond, ◌&&◌, List, [], ◌∷◌, ◌++◌, ℕ, zero, suc, ◌+◌, ◌-◌, ◌*◌, ◌/◌, ◌%◌, leb, ltb, eqb, length, drop}

-- the ASCII byte of a digit: 0 to 9, then a to f
abbrev pub glyph_of : ℕ → ℕ
glyph_of d = cond (ltb d 10) (48 + d) (87 + d)

-- the last k digits of n
unfoldable pub last_digits : ℕ → ℕ → ℕ → List ℕ
last_digits base zero n = []
last_digits base (suc k) n = last_digits base k (n / base) ++ (glyph_of (n % base) ∷ [])

-- a row of digits without its leading zeros (48): a zero goes where a digit follows it
unfoldable pub without_zeros : List ℕ → List ℕ
without_zeros [] = []
without_zeros (b ∷ bs) = cond (eqb b 48 && ltb 0 (length bs)) (without_zeros bs) (b ∷ bs)

-- a number below 10 ^ 20, as any of 64 bits is, in decimal: one digit at least, no leading zero
unfoldable pub natural_text : ℕ → List ℕ
natural_text n = without_zeros (last_digits 10 20 n)

-- the integer that `bits` is in two's complement, where `highest` is the largest one: bits past it are a negative one's, - (45) and its size
unfoldable pub integer_text : ℕ → ℕ → List ℕ
integer_text bits highest = cond (leb bits highest) (natural_text bits) (45 ∷ natural_text (2 * highest + 2 - bits))

-- what a writer answers, the text's length, and the bytes lent to it as it leaves them
pub record Output : Type 0 where
  pub size : ℕ
  pub bytes : List ℕ

-- a text put at the start of the bytes lent, those after it kept
abbrev pub output : List ℕ → List ℕ → Output
output text out = record { size = length text; bytes = text ++ drop (length text) out }
