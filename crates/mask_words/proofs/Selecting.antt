-- Words of bits, by the columns that a slot is looked for in. Assumes nothing.
use mathlib.Core.Path.{◌≡◌, refl, sym, ap, ap₂, ◌∙◌}
use mathlib.Core.Bool.{Bool, true, false, not, ◌&&◌, ◌||◌}
use mathlib.Core.List.{List, [], ◌∷◌, ◌++◌}
use Prim.Native.Nat.{ℕ, suc, ◌+◌, ◌-◌, ◌*◌, ◌%◌, ◌^◌, ◌≤◌, ◌<◌, min}
use native.Mathlib.Nat.{le_of_suc-le-suc, lt_of_not-le}
use native.Mathlib.Numerals.{add-one}
use native.Mathlib.Decide.{dec_lt}
use native.Mathlib.Omega.{arith}
use borrow.Author.Tests.{lt-ltb, le-ltb, ltb-true}
use lib.Dec.{ltb}
use lib.ListN.{get_or, take, drop, length, length-take, length-drop}
use lib.Seq.{take-suc, take_all, get_or-take, get_or-drop}
use lib.IntN.{ℤ, pos}
use lib.Bits.{bit_and, bit_or}
use Rattle.std.proofs.Math.Bool.{or_assoc}
use Rattle.bitmap.specs.Bits.{same_id, selection_of}
use Rattle.bitmap.proofs.Words.{pack_ext, pack_none, and_pack, or_pack, not_pack, low_pack, or_false}
use Rattle.array_columns.specs.declared.Column.{Column}
use Rattle.array_columns.specs.Types.{no_column}
use Rattle.array_columns.specs.Buffers.{Buffers}
use Rattle.array_columns.specs.Slots.{present, presence_chunk}
use Rattle.mask_words.specs.Steps.{any, word_of, id_at, or_of}

-- ---- any

pub or_parts : (a b : Bool) → (a || b) ≡ false → (a ≡ false) × (b ≡ false)
or_parts true b e = (cc, cc)
or_parts false b e = (refl, e)

pub any_ext : (g h : Column → Bool) (l : List Column) → ((f : Column) → g f ≡ h f) → any g l ≡ any h l
unfolding any
any_ext g h [] e = refl
any_ext g h (f ∷ l) e = ap₂ ◌||◌ (e f) (any_ext g h l e)

any_snoc : (g : Column → Bool) (l : List Column) (f : Column) → any g (l ++ f ∷ []) ≡ (any g l || g f)
unfolding any
any_snoc g [] f = or_false (g f)
any_snoc g (x ∷ l) f = ap (λ (b : Bool). g x || b) (any_snoc g l f) ∙ sym (or_assoc (g x) (any g l) (g f))

-- one more column
pub any_more : (g : Column → Bool) (l : List Column) (m : ℕ) → m < length l → any g (take (suc m) l) ≡ (any g (take m l) || g (get_or l m no_column))
any_more g l m h = ap (any g) (take-suc l m no_column h) ∙ any_snoc g (take m l) (get_or l m no_column)

-- what fails h fails g
pub any_less : (g h : Column → Bool) (l : List Column) → ((f : Column) → h f ≡ false → g f ≡ false) → any h l ≡ false → any g l ≡ false
unfolding any
any_less g h [] i e = refl
any_less g h (f ∷ l) i e = let p = or_parts (h f) (any h l) e in ap₂ ◌||◌ (i f p.0) (any_less g h l i p.1)

-- one more word joined by or
pub or_more : (f : ℕ → ℕ) (q s x : ℕ) → s ≡ or_of q f → x ≡ f q → bit_or s x ≡ or_of (q + 1) f
unfolding or_of
or_more f q s x es ex = ap₂ bit_or es ex ∙ ap (λ (n : ℕ). or_of n f) (sym (add-one q))

-- ---- words

-- the slots of a word are those below len
pub span_cut : (n len k : ℕ) → n ≡ min 64 (len - 64 * k) → (j : ℕ) → j < 64 → ltb j n ≡ ltb (64 * k + j) len
span_cut n len k en j h = at (dec_lt j n)
  where
    at : Dec (j < n) → ltb j n ≡ ltb (64 * k + j) len
    at (yes b) = lt-ltb j n b ∙ sym (lt-ltb (64 * k + j) len (omega arith))
    at (no b) = let l : n ≤ j = le_of_suc-le-suc (lt_of_not-le b) in le-ltb j n l ∙ sym (le-ltb (64 * k + j) len (omega arith))

cut : (c x y : Bool) → (c ≡ true → x ≡ y) → (c && x) ≡ (c && y)
cut true x y h = h refl
cut false x y h = refl

or_cut : (c x y : Bool) → ((c && x) || (c && y)) ≡ (c && (x || y))
or_cut true x y = refl
or_cut false x y = refl

and_cut : (c x y : Bool) → ((c && x) && (c && y)) ≡ (c && (x && y))
and_cut true x y = refl
and_cut false x y = refl

not_cut : (c x y : Bool) → (not (c && x) && (c && y)) ≡ (c && (not x && y))
not_cut true x y = refl
not_cut false x y = refl

rest_cut : (c x y : Bool) → (c && ((c && x) || not (c && y))) ≡ (c && (x || not y))
rest_cut true x y = refl
rest_cut false x y = refl

none_cut : (c : Bool) → (c && false) ≡ false
none_cut true = refl
none_cut false = refl

module _ (len k : ℕ) where
  pub word_ext : (f g : ℕ → Bool) → ((i : ℕ) → i < len → f i ≡ g i) → word_of len f k ≡ word_of len g k
  unfolding word_of
  word_ext f g e = pack_ext 64 _ _ (λ j h. cut (ltb (64 * k + j) len) _ _ (λ t. e (64 * k + j) (ltb-true (64 * k + j) len t)))

  pub word_none : (f : ℕ → Bool) → ((i : ℕ) → i < len → f i ≡ false) → word_of len f k ≡ 0
  unfolding word_of
  word_none f e = word_ext f (λ i. false) e ∙ pack_none 64 _ (λ j h. none_cut (ltb (64 * k + j) len))

  pub word_or : (f g : ℕ → Bool) → bit_or (word_of len f k) (word_of len g k) ≡ word_of len (λ i. f i || g i) k
  unfolding word_of
  word_or f g = or_pack 64 _ _ ∙ pack_ext 64 _ _ (λ j h. or_cut (ltb (64 * k + j) len) (f (64 * k + j)) (g (64 * k + j)))

  pub word_and : (f g : ℕ → Bool) → bit_and (word_of len f k) (word_of len g k) ≡ word_of len (λ i. f i && g i) k
  unfolding word_of
  word_and f g = and_pack 64 _ _ ∙ pack_ext 64 _ _ (λ j h. and_cut (ltb (64 * k + j) len) (f (64 * k + j)) (g (64 * k + j)))

  -- the bits of g that f has not
  pub word_less : (f g : ℕ → Bool) → bit_and ((2 ^ 64 - 1) - word_of len f k) (word_of len g k) ≡ word_of len (λ i. not (f i) && g i) k
  unfolding word_of
  word_less f g =
      ap (λ (x : ℕ). bit_and x (word_of len g k)) (not_pack 64 _) ∙ and_pack 64 _ _
      ∙ pack_ext 64 _ _ (λ j h. not_cut (ltb (64 * k + j) len) (f (64 * k + j)) (g (64 * k + j)))

  -- the bits of f, and all that g has not, cut to the slots of the word
  pub word_rest : (f g : ℕ → Bool) (n : ℕ) → n ≡ min 64 (len - 64 * k)
      → bit_or (word_of len f k) ((2 ^ 64 - 1) - word_of len g k) % 2 ^ n ≡ word_of len (λ i. f i || not (g i)) k
  unfolding word_of
  word_rest f g n en =
      ap (λ (x : ℕ). x % 2 ^ n) (ap (bit_or (word_of len f k)) (not_pack 64 _) ∙ or_pack 64 _ _) ∙ low_pack 64 n _
      ∙ pack_ext 64 _ _ (λ j h.
      ap (λ (b : Bool). b && ((ltb (64 * k + j) len && f (64 * k + j)) || not (ltb (64 * k + j) len && g (64 * k + j)))) (span_cut n len k en j h)
      ∙ rest_cut (ltb (64 * k + j) len) (f (64 * k + j)) (g (64 * k + j)))

  pub word_presence : (c : Column) (m : Buffers) → presence_chunk c m len k ≡ word_of len (present c m) k
  unfolding word_of presence_chunk
  word_presence c m = refl

-- ---- a run of the type ids

-- the ids of the slots of word k
abbrev pub run_of : List ℤ → ℕ → List ℤ
run_of ids k = let rest = drop (64 * k) ids in take (min 64 (length rest)) rest

pub run_length : (ids : List ℤ) (k : ℕ) → length (run_of ids k) ≡ min 64 (length ids - 64 * k)
run_length ids k = omega (arith, length-take (min 64 (length (drop (64 * k) ids))) (drop (64 * k) ids), length-drop (64 * k) ids)

-- the run as it is cut from the ids
pub run_is : (ids : List ℤ) (k n : ℕ) → n ≡ min 64 (length (take (length ids - 64 * k) (drop (64 * k) ids))) → take n (take (length ids - 64 * k) (drop (64 * k) ids)) ≡ run_of ids k
run_is ids k n en =
    let z : take (length ids - 64 * k) (drop (64 * k) ids) ≡ drop (64 * k) ids = take_all (length ids - 64 * k) (drop (64 * k) ids) (omega (arith, length-drop (64 * k) ids)) in
    ap₂ take (en ∙ ap (λ (l : List ℤ). min 64 (length l)) z) z

-- id j of the run is that of slot j of the word
pub run_at : (ids : List ℤ) (k j : ℕ) → j < length (run_of ids k) → get_or (run_of ids k) j (pos 0) ≡ id_at ids (64 * k + j)
run_at ids k j h =
    get_or-take (min 64 (length (drop (64 * k) ids))) (drop (64 * k) ids) j (pos 0) (omega (arith, length-take (min 64 (length (drop (64 * k) ids))) (drop (64 * k) ids)))
    ∙ get_or-drop (64 * k) ids j (pos 0)

pub word_selection : (ids : List ℤ) (k : ℕ) (id : ℤ) → selection_of (run_of ids k) 0 (length (run_of ids k)) id ≡ word_of (length ids) (λ i. same_id (id_at ids i) id) k
unfolding word_of selection_of
word_selection ids k id =
    pack_ext 64 _ _ (λ j h.
    cut (ltb j (length (run_of ids k))) _ _ (λ t. ap (λ (z : ℤ). same_id z id) (at j (ltb-true j (length (run_of ids k)) t)))
    ∙ ap (λ (b : Bool). b && same_id (id_at ids (64 * k + j)) id) (span_cut (length (run_of ids k)) (length ids) k (run_length ids k) j h))
  where
    at : (j : ℕ) → j < length (run_of ids k) → get_or (run_of ids k) (0 + j) (pos 0) ≡ id_at ids (64 * k + j)
    at j h = let z : 0 + j ≡ j = omega arith in ap (λ (n : ℕ). get_or (run_of ids k) n (pos 0)) z ∙ run_at ids k j h
