-- Valid ids as natural numbers, and as the machine holds them. Assumes nothing.
use mathlib.Core.Path.{◌≡◌, refl, sym, ap, ◌∙◌, subst}
use mathlib.Core.Bool.{true, false≢true}
use Prim.Native.Nat.{ℕ, ◌<◌}
use borrow.Author.Tests.{ltb-true}
use lib.Dec.{T}
use lib.IntN.{ℤ, pos, negsuc, nat_abs}
use lib.ListN.{get_or}
use lib.Signed.{non_neg}
use native.Mathlib.Omega.{arith}
use mathlib.Core.List.{List}
use mir.Syntax.{w8, w64}
use mir.Val.{Fits, of_z, to_z}
use Rattle.bitmap.specs.Bits.{selection_of, selections_of}
use Rattle.bitmap.proofs.Ids.{id_is}
use Rattle.bitmap.proofs.Selections.{selected_word}
use Rattle.array_columns.specs.Questions.{valid_id}

-- a valid id is not negative, and below 128
pub valid_plain : (z : ℤ) → valid_id z ≡ true → T (non_neg z) × (nat_abs z < 128)
valid_plain (pos n) e = (tt, ltb-true n 128 e)
valid_plain (negsuc n) e = absurd (false≢true e)

pub plain_is : (z : ℤ) → T (non_neg z) → z ≡ pos (nat_abs z)
plain_is (pos n) h = refl
plain_is (negsuc n) h = absurd h

pub valid_cast : (z : ℤ) → valid_id z ≡ true → to_z w8 (of_z w8 z) ≡ z
valid_cast (pos n) e = id_is (pos n) (ltb-true n 128 e)
valid_cast (negsuc n) e = absurd (false≢true e)

-- and so as an index
pub valid_casts : (z : ℤ) → valid_id z ≡ true → T (non_neg (to_z w8 (of_z w8 z))) × Fits w64 (nat_abs (to_z w8 (of_z w8 z)))
valid_casts (pos n) e =
    let l = ltb-true n 128 e in
    subst (λ (x : ℤ). T (non_neg x) × Fits w64 (nat_abs x)) (sym (valid_cast (pos n) e)) (tt, omega arith)
valid_casts (negsuc n) e = absurd (false≢true e)

-- and as a byte
pub valid_byte : (z : ℤ) → valid_id z ≡ true → T (non_neg (to_z w8 (of_z w8 z))) × Fits w8 (nat_abs (to_z w8 (of_z w8 z)))
valid_byte (pos n) e =
    let l = ltb-true n 128 e in
    subst (λ (x : ℤ). T (non_neg x) × Fits w8 (nat_abs x)) (sym (valid_cast (pos n) e)) (tt, omega arith)
valid_byte (negsuc n) e = absurd (false≢true e)

-- the selection mask of a valid id, looked up
pub valid_word : (ids : List ℤ) (s n : ℕ) (z : ℤ) → valid_id z ≡ true → get_or (selections_of ids s n) (nat_abs (to_z w8 (of_z w8 z))) 0 ≡ selection_of ids s n z
valid_word ids s n z v =
    ap (λ (y : ℤ). get_or (selections_of ids s n) (nat_abs y) 0) (valid_cast z v) ∙ selected_word ids s n (nat_abs z) (valid_plain z v).1
    ∙ ap (selection_of ids s n) (sym (plain_is z (valid_plain z v).0))
