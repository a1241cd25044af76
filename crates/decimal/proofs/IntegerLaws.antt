-- Laws of integers as text, by a text's first bytes.
use mathlib.Core.Path.{◌≡◌, refl, sym, ap, ◌∙◌}
use mathlib.Core.Bool.{Bool, true, false, ◌&&◌}
use mathlib.Core.List.{List, [], ◌∷◌}
use Prim.Native.Nat.{ℕ, ◌+◌, ◌-◌, ◌^◌, ◌≤◌}
use native.Mathlib.Omega.{arith}
use lib.Dec.{leb, eqb}
use lib.ListN.{length, take, drop, get_or, length-drop}
use lib.Seq.{take_all}
use borrow.Author.Tests.{le-leb, eq-eqb, leb-true}
use Rattle.std.specs.Prelude.{Option, Some, None, option_map}
use Rattle.decimal.specs.Digits.{number_of}
use Rattle.decimal.specs.Integers.{natural_of, minus, is_hex, hex_of}

and_left : (a b : Bool) → (a && b) ≡ true → a ≡ true
and_left true b h = refl
and_left false b h = h

-- a part from k to the end
pub tail_is : (xs : List ℕ) (k : ℕ) → take (length xs - k) (drop k xs) ≡ drop k xs
tail_is xs k = take_all (length xs - k) (drop k xs) (simp length-drop (omega arith))

-- no digit is no number
pub natural_empty : (xs : List ℕ) (most : ℕ) → length xs ≡ 0 → None ≡ natural_of xs most
unfolding natural_of
natural_empty [] most h = refl
natural_empty (x ∷ xs) most h = cc

-- minus what was read, if a number was read
pub minus_told : (n r : ℕ) (b s : Option ℕ) → b ≡ s → b ≡ Some n → r ≡ minus n → Some r ≡ option_map minus s
minus_told n r b s p q h = ap Some h ∙ ap (option_map minus) (sym q ∙ p)

pub minus_refused : (b s : Option ℕ) → b ≡ s → b ≡ None → None ≡ option_map minus s
minus_refused b s p q = ap (option_map minus) (sym q ∙ p)

-- ---- hexadecimal

module _ (xs : List ℕ) where
  pub hex_second : 2 ≤ length xs → get_or xs 0 0 ≡ 48 → eqb (get_or xs 1 0) 120 ≡ is_hex xs
  unfolding is_hex
  hex_second h k = rw (le-leb 2 (length xs) h, eq-eqb (get_or xs 0 0) 48 k)

  pub hex_long : (t : Bool) → t ≡ is_hex xs → t ≡ true → 2 ≤ length xs
  unfolding is_hex
  hex_long t p q = leb-true 2 (length xs) (and_left (leb 2 (length xs)) _ (sym p ∙ q))

  pub hex_digits_lem : (count : ℕ) (t : Bool) → t ≡ is_hex xs → t ≡ true → length xs - 2 ≡ count → number_of 16 0 (take (length xs - 2) (drop 2 xs)) (2 ^ 64 - 1) ≡ hex_of xs count
  unfolding hex_of
  hex_digits_lem count t p q h = let l = hex_long t p q in rw (tail_is xs 2, sym p ∙ q, eq-eqb (length xs) (2 + count) (omega arith))
