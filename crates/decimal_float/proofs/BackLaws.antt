-- Laws of floats as text: what is written reads back.
use mathlib.Core.Path.{◌≡◌, refl, sym, ap, ◌∙◌}
use mathlib.Core.Bool.{true}
use mathlib.Core.List.{List}
use Prim.Native.Nat.{ℕ, suc, ◌+◌, ◌-◌, ◌*◌, ◌^◌, ◌<◌, ◌≤◌}
use native.Mathlib.Omega.{arith}
use lib.Dec.{eqb}
use lib.ListN.{length, take, drop}
use borrow.Author.Tests.{eqb-true}
use Rattle.std.specs.Prelude.{Option, Some}
use Rattle.decimal.specs.Digits.{number_of}
use Rattle.decimal.specs.Integers.{is_hex}
use Rattle.decimal.specs.Text.{last_digits, Output, output}
use Rattle.decimal.specs.Written.{hex_text}
use Rattle.decimal.proofs.IntegerLaws.{tail_is, hex_second, hex_digits_lem}
use Rattle.decimal.proofs.NumeralLaws.{digits_length}
use Rattle.decimal.proofs.TextLaws.{digits_back, output_text}
use Rattle.decimal_float.specs.declared.Format.{Format}
use Rattle.decimal_float.specs.declared.Format.TheVariants.{Binary32, Binary64}
use Rattle.decimal_float.specs.Floats.{sign_weight, hex_digits, float_of}
use Rattle.decimal_float.proofs.FloatLaws.{float_hex}

-- a text reads as the bits, where the number read equals them
pub reads : (f : Format) (text : List ℕ) (b : Option ℕ) (n bits : ℕ) → b ≡ float_of f text → b ≡ Some n → eqb n bits ≡ true → float_of f text ≡ Some bits
reads f text b n bits p q e = sym p ∙ q ∙ ap Some (eqb-true n bits e)

-- ---- a float's bits in hexadecimal read back

hex_holds : (f : Format) (bits : ℕ) → bits < 2 * sign_weight f → (bits < 16 ^ hex_digits f) × (bits ≤ 2 ^ 64 - 1)
hex_holds Binary32 bits h = (h, omega arith)
hex_holds Binary64 bits h = (h, omega arith)

pub hex_small : (f : Format) → hex_digits f ≤ 16
hex_small Binary32 = omega arith
hex_small Binary64 = omega arith

module _ (f : Format) (bits : ℕ) (h : bits < 2 * sign_weight f) where
  told : List ℕ
  told = hex_text bits (hex_digits f)

  long : 2 ≤ length told
  unfolding told hex_text
  long = at_least (length (last_digits 16 (hex_digits f) bits))
    where
      at_least : (n : ℕ) → 2 ≤ suc (suc n)
      at_least n = omega arith

  begins : true ≡ is_hex told
  unfolding told hex_text
  begins = hex_second told long refl

  sized : length told - 2 ≡ hex_digits f
  unfolding told hex_text
  sized = less (length (last_digits 16 (hex_digits f) bits)) ∙ digits_length 16 (hex_digits f) bits
    where
      less : (n : ℕ) → suc (suc n) - 2 ≡ n
      less n = omega arith

  tail : drop 2 told ≡ last_digits 16 (hex_digits f) bits
  unfolding told hex_text
  tail = refl

  told_back : float_of f told ≡ Some bits
  told_back =
      sym (float_hex f told true (λ z. let g = long in omega arith) begins refl)
      ∙ sym (hex_digits_lem told (hex_digits f) true begins refl sized)
      ∙ ap (λ (x : List ℕ). number_of 16 0 x (2 ^ 64 - 1)) (tail_is told 2 ∙ tail)
      ∙ digits_back 16 (hex_digits f) bits (2 ^ 64 - 1) (omega arith) (omega arith) (hex_holds f bits h).0 (hex_holds f bits h).1

  pub hex_back : (count : ℕ) (was now : List ℕ) (r : ℕ) → count ≡ hex_digits f → record { size = r; bytes = now } ≡ output (hex_text bits count) was → (r ≤ 37) × (float_of f (take r now) ≡ Some bits)
  unfolding told hex_text
  hex_back count was now r c e =
      let s : r ≡ 2 + count = ap (λ (o : Output). o.size) e ∙ size (last_digits 16 count bits) (digits_length 16 count bits) in
      let l = hex_small f in
      (omega arith, ap (float_of f) (output_text (hex_text bits count) was now r e ∙ ap (hex_text bits) c) ∙ told_back)
    where
      size : (xs : List ℕ) → length xs ≡ count → suc (suc (length xs)) ≡ 2 + count
      size xs z = omega arith
