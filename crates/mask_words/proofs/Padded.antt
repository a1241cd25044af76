-- A list, and zeros after it. Assumes nothing.
use mathlib.Core.Path.{◌≡◌, sym, ap, ap₂, ◌∙◌}
use mathlib.Core.List.{List, [], ◌∷◌, ◌++◌, map, append_assoc}
use Prim.Native.Nat.{ℕ, suc, ◌+◌, ◌≤◌, ◌<◌}
use native.Mathlib.Numerals.{add-one}
use native.Mathlib.Omega.{arith}
use lib.ListN.{take, drop, length, set, get_or, length-map, length-append, length-replicate}
use lib.Seq.{take-suc, length-take-le, drop-cons, set-append_seam}
use Rattle.std.proofs.lemmas.List.{map-append}
use Rattle.mask_words.specs.Steps.{zeros, padded}

zeros_length : length zeros ≡ 128
unfolding zeros
zeros_length = length-replicate {A = ℕ} 128 0

-- one more number, stored in place of the first of the zeros
pub padded_next : (l : List ℕ) (x : ℕ) → length l < 128 → set (padded l) (length l) x ≡ padded (l ++ x ∷ [])
padded_next l x h =
    let rest = drop (suc (length l)) zeros in
    let more : suc (length l) ≡ length (l ++ x ∷ []) = omega (arith, length-append l (x ∷ [])) in
    ap (λ (r : List ℕ). set (l ++ r) (length l) x) (drop-cons zeros (length l) 0 (omega (arith, zeros_length)))
    ∙ set-append_seam l (get_or zeros (length l) 0) rest x ∙ sym (append_assoc l (x ∷ []) rest)
    ∙ ap (λ (n : ℕ). (l ++ x ∷ []) ++ drop n zeros) more

-- what a rule makes of one more number of a list, stored so
pub made_next : (f : ℕ → ℕ) (l : List ℕ) (q x : ℕ) → q < length l → length l ≤ 128 → x ≡ f (get_or l q 0) → set (padded (map f (take q l))) q x ≡ padded (map f (take (q + 1) l))
made_next f l q x h b e =
    let made = map f (take q l) in
    let n : q ≡ length made = omega (arith, length-map (take q l) f, length-take-le q l (omega arith)) in
    ap₂ (λ (k y : ℕ). set (padded made) k y) n e ∙ padded_next made (f (get_or l q 0)) (omega arith)
    ∙ ap padded (sym (ap (λ (k : ℕ). map f (take k l)) (add-one q) ∙ ap (map f) (take-suc l q 0 h) ∙ map-append f (take q l) (get_or l q 0 ∷ [])))
