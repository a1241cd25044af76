-- Validity bits in 64-bit words (Format, validity bitmaps; document 01, "Bits below the union"). A text in quotes is 01's.
use Rattle.std.specs.Prelude.{Bool, true, false, cond, not, ◌&&◌, List, ℕ, zero, suc, ◌+◌, ◌*◌, ◌/◌, ◌%◌, ◌^◌, eqb, ltb, get_or, set, ℤ, pos, negsuc}
use Rattle.bitmap.specs.Lists.{table, retable}

-- a bit as a number
abbrev pub digit : Bool → ℕ
digit true = 1
digit false = 0

-- bit j of a word, "least significant is 0"
unfoldable pub test_bit : ℕ → ℕ → Bool
test_bit w j = eqb (w / 2 ^ j % 2) 1

-- "Mask bit p is bit p mod 64 (least significant is 0) of word p div 64; set means present"; past the words it reads as 0
unfoldable pub bit_at : List ℕ → ℕ → Bool
bit_at words p = test_bit (get_or words (p / 64) 0) (p % 64)

-- the number of n binary digits whose digit j is f j
unfoldable pub pack : ℕ → (ℕ → Bool) → ℕ
pack zero f = 0
pack (suc n) f = pack n (λ j. f (suc j)) * 2 + digit (f 0)

-- how many j below n have f j
unfoldable pub count : ℕ → (ℕ → Bool) → ℕ
count zero f = 0
count (suc n) f = digit (f 0) + count n (λ j. f (suc j))

-- the words that n bits take: n divided by 64, rounded up
unfoldable pub words_for : ℕ → ℕ
words_for n = (n + 63) / 64

-- "For a mask that starts at bit s, chunk k, bit j, is bit s + 64k + j. Bits past the end read as 0."
unfoldable pub chunk_of : List ℕ → ℕ → ℕ → ℕ → ℕ
chunk_of words s len k = pack 64 (λ j. ltb (64 * k + j) len && bit_at words (s + 64 * k + j))

-- "For a mask, its null count is its length less its set bits": its clear bits, for a mask of len bits that starts at bit s
unfoldable pub nulls_of : List ℕ → ℕ → ℕ → ℕ
nulls_of words s len = count len (λ i. not (bit_at words (s + i)))

-- "Fully null: null count equals length, and length is not 0."
unfoldable pub is_fully_null : ℕ → ℕ → Bool
is_fully_null nulls len = not (eqb len 0) && eqb nulls len

-- two type ids are the same
unfoldable pub same_id : ℤ → ℤ → Bool
same_id (pos a) (pos b) = eqb a b
same_id (pos a) (negsuc b) = false
same_id (negsuc a) (pos b) = false
same_id (negsuc a) (negsuc b) = eqb a b

-- the selection mask of a run of n type ids from place s on: bit j is set exactly if id j of the run is the given one
unfoldable pub selection_of : List ℤ → ℕ → ℕ → ℤ → ℕ
selection_of ids s n id = pack 64 (λ j. ltb j n && same_id (get_or ids (s + j) (pos 0)) id)

-- the selection masks of such a run: a word to each id from 0 to 127
unfoldable pub selections_of : List ℤ → ℕ → ℕ → List ℕ
selections_of ids s n = table 128 (λ id. selection_of ids s n (pos id))

-- the words with mask bit p made v: the other bits of its word, and the other words, are kept
unfoldable pub set_bit : List ℕ → ℕ → Bool → List ℕ
set_bit words p v = set words (p / 64) (pack 64 (λ j. cond (eqb j (p % 64)) v (test_bit (get_or words (p / 64) 0) j)))

-- "the count rounded up to whole words, bits past the count 0; later words keep their contents": the mask of n slots, set where not null
unfoldable pub written : ℕ → (ℕ → Bool) → List ℕ → List ℕ
written n is_null out = retable (words_for n) (λ k. pack 64 (λ j. ltb (64 * k + j) n && not (is_null (64 * k + j)))) out
