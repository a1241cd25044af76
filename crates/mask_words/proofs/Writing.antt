-- The words of a mask, written one at a time. Assumes nothing.
use mathlib.Core.Path.{◌≡◌, refl, sym, ap, ◌∙◌}
use mathlib.Core.Bool.{Bool, false, not}
use mathlib.Core.List.{List, ◌++◌, append-nil}
use Prim.Native.Nat.{ℕ, ◌*◌, ◌≤◌, ◌<◌}
use native.Mathlib.Omega.{arith}
use lib.ListN.{length, take, drop, replicate, length-take, drop_of_length-le}
use lib.Seq.{length-take-le}
use Rattle.bitmap.specs.Lists.{retable}
use Rattle.bitmap.specs.Bits.{words_for, written}
use Rattle.bitmap.proofs.Tables.{retable_ext, table_same}
use Rattle.mask_words.specs.Steps.{word_of, words_of}
use Rattle.mask_words.proofs.Selecting.{word_ext, word_none}

module _ (len : ℕ) where
  -- a word of the mask, of those that are lent, has a slot
  pub word_starts : (k n : ℕ) (out : List ℕ) → n ≡ words_for len → k < length (take n out) → 64 * k < len
  unfolding words_for
  word_starts k n out e h = omega (arith, length-take n out)

  -- all words written, of those that are lent
  pub words_done : (f : ℕ → Bool) (out items : List ℕ) (k n : ℕ) → n ≡ words_for len → n ≤ length out → items ≡ retable k (word_of len f) (take n out) → k ≡ length (take n out)
      → items ++ drop n out ≡ words_of len f out
  unfolding words_of retable
  words_done f out items k n e h i q =
      let z : k ≡ n = q ∙ length-take-le n out h in
      let p : length (take n out) ≤ n = omega arith in
      ap (λ (l : List ℕ). l ++ drop n out) (i ∙ ap (λ (j : ℕ). retable j (word_of len f) (take n out)) z) ∙ rw drop_of_length-le (rw append-nil (ap (λ (j : ℕ). retable j (word_of len f) out) e))

  pub words_ext : (f g : ℕ → Bool) (out : List ℕ) → ((i : ℕ) → i < len → f i ≡ g i) → words_of len f out ≡ words_of len g out
  unfolding words_of
  words_ext f g out e = retable_ext (words_for len) (word_of len f) (word_of len g) out (λ k h. word_ext len k f g e)

  pub words_written : (is_null : ℕ → Bool) (out : List ℕ) → words_of len (λ i. not (is_null i)) out ≡ written len is_null out
  unfolding words_of written word_of
  words_written is_null out = refl

  pub null_words : (n : ℕ) (out : List ℕ) → n ≡ words_for len → replicate n 0 ++ drop n out ≡ words_of len (λ i. false) out
  unfolding words_of retable
  null_words n out e =
      ap (λ (l : List ℕ). l ++ drop n out) (sym (table_same n (word_of len (λ i. false)) 0 (λ k h. word_none len k (λ i. false) (λ i h. refl))))
      ∙ ap (λ (j : ℕ). retable j (word_of len (λ i. false)) out) e
