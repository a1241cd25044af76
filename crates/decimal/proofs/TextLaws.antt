-- Laws of numbers as text: a digit put in a turn, that digits read back, and what is in a buffer.
use mathlib.Core.Path.{◌≡◌, refl, sym, ap, ◌∙◌, subst}
use mathlib.Core.Bool.{Bool, true, false, cond}
use mathlib.Core.List.{List, [], ◌∷◌, ◌++◌, append_assoc}
use Prim.Native.Nat.{ℕ, zero, suc, ◌+◌, ◌-◌, ◌*◌, ◌/◌, ◌%◌, ◌^◌, ◌<◌, ◌≤◌}
use native.Mathlib.Nat.{le_trans, lt_of_not-le, pow-zero, pow-suc, div-add-mod, mod-lt, div-le_self, div-lt_iff_lt-mul}
use native.Mathlib.Omega.{arith}
use borrow.Rule.Slice.PartMut.{put_mid}
use lib.Dec.{leb, ltb}
use lib.ListN.{drop_of_length-le, length, take, drop, set, length-append}
use lib.Seq.{length-take-le, drop-drop, take_at}
use borrow.Author.Tests.{lt-ltb, le-ltb, lt-leb}
use Rattle.std.specs.Prelude.{Some}
use Rattle.std.proofs.lemmas.List.{append-nil}
use Rattle.decimal.specs.Digits.{digit_of, number_of}
use Rattle.decimal.specs.Text.{glyph_of, last_digits, natural_text, integer_text, Output, output}
use Rattle.decimal.specs.Written.{hex_text}
use Rattle.decimal.proofs.DigitLaws.{digit_1, digit_3, number_then, number_digit, number_none}
use Rattle.decimal.proofs.IntegerLaws.{tail_is}
use Rattle.decimal.proofs.NumeralLaws.{digits_length, numeral_last, numeral_few}

-- ---- digits read back

glyph_back : (d : ℕ) → d < 16 → digit_of (glyph_of d) ≡ d
glyph_back d h = go (ltb d 10) (lt-ltb d 10) (le-ltb d 10)
  where
    low : d < 10 → digit_of (48 + d) ≡ d
    low k = sym (digit_1 (48 + d) (omega arith) (omega arith)) ∙ omega arith

    high : 10 ≤ d → digit_of (87 + d) ≡ d
    high k = sym (digit_3 (87 + d) (omega arith) (omega arith)) ∙ omega arith

    go : (t : Bool) → (d < 10 → t ≡ true) → (10 ≤ d → t ≡ false) → digit_of (cond t (48 + d) (87 + d)) ≡ d
    go true a b = low (lt_of_not-le (λ (g : 10 ≤ d). never (b g)))
      where
        never : true ≡ false → ⊥
        never e = let z : ◌≡◌ {A = ℕ} 0 1 = cc in omega arith
    go false a b = high (at_least (λ (g : d < 10). never (a g)))
      where
        never : false ≡ true → ⊥
        never e = let z : ◌≡◌ {A = ℕ} 0 1 = cc in omega arith

        at_least : (d < 10 → ⊥) → 10 ≤ d
        at_least n = omega (arith, n)

pub digits_back : (base k n most : ℕ) → 0 < base → base ≤ 16 → n < base ^ k → n ≤ most → number_of base 0 (last_digits base k n) most ≡ Some n
unfolding last_digits
digits_back base zero n most p q h l = number_none base 0 most (omega arith) ∙ ap Some (let e : n < 1 = rw pow-zero at h in omega arith)
digits_back base (suc k) n most p q h l =
    let r = n % base in
    let v = n / base in
    let a : v < base ^ k = (div-lt_iff_lt-mul p).1 (subst (λ (x : ℕ). n < x) (pow-suc base k) h) in
    let s : base * v + r ≡ n = div-add-mod n base in
    let b : v ≤ most = le_trans (div-le_self n base) l in
    let ih = digits_back base k v most p q a b in
    let c : r < 16 = le_trans (mod-lt n p) q in
    let d : digit_of (glyph_of r) ≡ r = glyph_back r c in
    number_then base 0 most v (last_digits base k v) (glyph_of r ∷ []) ih
    ∙ number_digit base v (glyph_of r) most [] (subst (λ (x : ℕ). x < base) (sym d) (mod-lt n p))
    ∙ ap (λ (x : ℕ). number_of base (base * v + x) [] most) d
    ∙ ap (λ (x : ℕ). number_of base x [] most) s
    ∙ number_none base n most l

-- the byte of a digit: below 10 from 48 on, the others from 97 on
pub glyph_low : (d : ℕ) → d < 10 → 48 + d ≡ glyph_of d
glyph_low d h = rw (lt-ltb d 10 h)

pub glyph_high : (d : ℕ) → 10 ≤ d → 87 + d ≡ glyph_of d
glyph_high d h = rw (le-ltb d 10 h)

-- ---- what the writers leave

-- an answer and bytes that are equal
output_same : (r s : ℕ) (b c : List ℕ) → r ≡ s → b ≡ c → ◌≡◌ {A = Output} (record { size = r; bytes = b }) (record { size = s; bytes = c })
output_same r s b c p q = cc

-- a text after first bytes
output_after : (first text was : List ℕ) → ◌≡◌ {A = Output} (record { size = length first + length text; bytes = first ++ (text ++ drop (length text) (drop (length first) was)) }) (output (first ++ text) was)
output_after first text was =
    output_same _ _ _ _ (sym (length-append first text))
    (sym (append_assoc first text _)
    ∙ ap (λ (l : List ℕ). (first ++ text) ++ l) (drop-drop (length text) (length first) was ∙ ap (λ (k : ℕ). drop k was) (sym (length-append first text))))

pub natural_out : (n count : ℕ) (was digits : List ℕ) → count ≡ length (natural_text n) → count ≤ length was → digits ≡ last_digits 10 (length (take count was)) n → record { size = count; bytes = digits ++ drop count was } ≡ output (natural_text n) was
natural_out n count was digits e h w =
    let d : digits ≡ natural_text n = w ∙ ap (λ (k : ℕ). last_digits 10 k n) (length-take-le count was h ∙ e) ∙ numeral_last n in
    output_same _ _ _ _ e (rw (d, e))

pub integer_minus_out : (bits highest m : ℕ) (was now : List ℕ) (r : ℕ) → highest < bits → 1 ≤ length was → m ≡ 2 * highest + 2 - bits
    → record { size = r; bytes = now } ≡ output (natural_text m) (take (length (set was 0 45) - 1) (drop 1 (set was 0 45)))
    → record { size = 1 + r; bytes = put_mid 1 (length (set was 0 45) - 1) (set was 0 45) now } ≡ output (integer_text bits highest) was
unfolding integer_text
integer_minus_out bits highest m [] now r h k s e = absurd (let g : 1 ≤ 0 = k in omega arith)
integer_minus_out bits highest m (x ∷ xs) now r h k s e =
    let size : r ≡ length (natural_text m) = ap (λ (o : Output). o.size) e in
    let bytes : now ≡ natural_text m ++ drop (length (natural_text m)) xs =
    ap (λ (o : Output). o.bytes) e ∙ ap (λ (l : List ℕ). natural_text m ++ drop (length (natural_text m)) l) (tail_is (x ∷ xs) 1) in
    rw (lt-leb bits highest h)
    (output_same _ _ _ _ (ap (λ (k : ℕ). 1 + k) size) (ap (λ (l : List ℕ). 45 ∷ l) (rest ∙ bytes))
    ∙ output_after (45 ∷ []) (natural_text m) (x ∷ xs)
    ∙ ap (λ (n : ℕ). output (45 ∷ natural_text n) (x ∷ xs)) s)
  where
    rest : now ++ drop (suc (length xs) - 1) xs ≡ now
    rest = ap (λ (l : List ℕ). now ++ l) (drop_of_length-le xs {i = suc (length xs) - 1} (omega arith)) ∙ append-nil now

pub hex_out : (bits count : ℕ) (was head digits : List ℕ) → 2 + count ≤ length was → head ≡ 48 ∷ (120 ∷ []) → digits ≡ last_digits 16 (length (take (2 + count - 2) (drop 2 (head ++ drop 2 was)))) bits
    → record { size = 2 + count; bytes = put_mid 2 (2 + count - 2) (head ++ drop 2 was) digits } ≡ output (hex_text bits count) was
unfolding hex_text
hex_out bits count [] head digits h e w = absurd (let g : 2 + count ≤ 0 = h in omega arith)
hex_out bits count (x ∷ []) head digits h e w = absurd (let g : 2 + count ≤ 1 = h in omega arith)
hex_out bits count (x ∷ y ∷ xs) head digits h e w =
    rw e
    (output_same _ _ _ _ (size (length (last_digits 16 count bits)) (digits_length 16 count bits))
    (ap (λ (l : List ℕ). 48 ∷ (120 ∷ l)) (rw (all, k) (ap (λ (n : ℕ). last_digits 16 count bits ++ drop n xs) (sym (digits_length 16 count bits))))))
  where
    k : 2 + count - 2 ≡ count
    k = omega arith

    fits : count ≤ length xs
    fits = let g : 2 + count ≤ suc (suc (length xs)) = h in omega arith

    size : (n : ℕ) → n ≡ count → 2 + count ≡ suc (suc n)
    size n z = omega arith

    all : digits ≡ last_digits 16 count bits
    all =
        w
        ∙ ap (λ (l : List ℕ). last_digits 16 (length (take (2 + count - 2) (drop 2 (l ++ xs)))) bits) e
        ∙ ap (λ (n : ℕ). last_digits 16 (length (take n xs)) bits) k
        ∙ ap (λ (n : ℕ). last_digits 16 n bits) (length-take-le count xs fits)

-- so many bytes at the start are the text
pub output_text : (text was now : List ℕ) (r : ℕ) → record { size = r; bytes = now } ≡ output text was → take r now ≡ text
output_text text was now r e =
    ap (λ (o : Output). take o.size o.bytes) e ∙ take_at text (drop (length text) was) (length text) refl

-- a numeral's length is at most 20, an integer's at most 21
pub natural_size : (n : ℕ) (was now : List ℕ) (r : ℕ) → record { size = r; bytes = now } ≡ output (natural_text n) was → r ≤ 20
natural_size n was now r e = let s : r ≡ length (natural_text n) = ap (λ (o : Output). o.size) e in omega (arith, numeral_few n)

pub integer_size : (bits highest : ℕ) (was now : List ℕ) (r : ℕ) → record { size = r; bytes = now } ≡ output (integer_text bits highest) was → r ≤ 21
unfolding integer_text
integer_size bits highest was now r e = let s : r ≡ length (integer_text bits highest) = ap (λ (o : Output). o.size) e in let l = go (leb bits highest) in omega arith
  where
    go : (t : Bool) → length (cond t (natural_text bits) (45 ∷ natural_text (2 * highest + 2 - bits))) ≤ 21
    go true = omega (arith, numeral_few bits)
    go false = omega (arith, numeral_few (2 * highest + 2 - bits))
