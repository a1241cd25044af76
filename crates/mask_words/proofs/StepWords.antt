-- The word that a step makes from the fields' ids and presence chunks is that of its strategy. Assumes nothing.
use mathlib.Core.Path.{◌≡◌, refl, sym, ap, ap₂, ◌∙◌}
use mathlib.Core.Bool.{Bool, ◌&&◌}
use mathlib.Core.List.{List, [], ◌∷◌, ◌++◌, map}
use Prim.Native.Nat.{ℕ, zero, suc, ◌+◌, ◌*◌, ◌%◌, ◌^◌, ◌≤◌, ◌<◌}
use native.Mathlib.Nat.{not-suc-le-zero}
use native.Mathlib.Omega.{arith}
use lib.IntN.{ℤ, pos}
use lib.ListN.{get_or, take, drop, length, length-map}
use lib.Seq.{take-length, take-append_seam}
use lib.Bits.{bit_and, bit_or}
use Rattle.std.proofs.lemmas.List.{get_or-map}
use Rattle.bitmap.specs.Lists.{table, retable}
use Rattle.bitmap.specs.Bits.{same_id, selection_of}
use Rattle.array_columns.specs.declared.Column.{Column}
use Rattle.array_columns.specs.Types.{no_column}
use Rattle.array_columns.specs.Buffers.{Buffers}
use Rattle.array_columns.specs.Slots.{present}
use Rattle.mask_words.specs.Steps.{FieldChunk, Taken, All, WithNulls, NotFull, any, word_of, id_at, selected_at, present_at, skip_one_at, skip_without_at, skip_fully_at, step_at, or_of, inverse, field_at, field_mask, skip_one_word, skip_without_word, skip_fully_word, step_word, field_chunk, StepReady, Plain, ValidIds}
use Rattle.mask_words.proofs.Selecting.{any_more, word_ext, word_none, word_or, word_and, word_less, word_rest, word_presence, run_of, run_length, run_at, word_selection}

module _ (words : Buffers) (ids : List ℤ) (k : ℕ) where
  -- the ids of some columns, and their presence chunks for word k
  abbrev pub fields_of : List Column → List FieldChunk
  fields_of l = map (field_chunk words (length ids) k) l

  -- the word of a test of each slot
  abbrev word : (ℕ → Bool) → ℕ
  word f = word_of (length ids) f k

  module _ (l : List Column) where
    field_is : (q : ℕ) → q < length l → field_at (fields_of l) q ≡ field_chunk words (length ids) k (get_or l q no_column)
    field_is q h = get_or-map (field_chunk words (length ids) k) l q no_column (record { id = pos 0; chunk = 0 }) h

    mask_is : (q : ℕ) → q < length l → field_mask (fields_of l) (run_of ids k) q ≡ word (λ i. same_id (id_at ids i) (get_or l q no_column).id)
    mask_is q h =
        ap (λ (f : FieldChunk). selection_of (run_of ids k) 0 (length (run_of ids k)) f.id) (field_is q h) ∙ word_selection ids k (get_or l q no_column).id

    -- the first m columns
    selected_to : (m : ℕ) → m ≤ length l → or_of m (field_mask (fields_of l) (run_of ids k)) ≡ word (selected_at (take m l) ids)
    unfolding or_of any
    selected_to zero h = sym (word_none (length ids) k _ (λ i b. refl))
    selected_to (suc m) h =
        ap₂ bit_or (selected_to m (omega arith)) (mask_is m h) ∙ word_or (length ids) k _ _
        ∙ word_ext (length ids) k _ _ (λ i b. sym (any_more (λ c. same_id (id_at ids i) c.id) l m h))

    present_to : (m : ℕ) → m ≤ length l
        → or_of m (λ q. bit_and (field_mask (fields_of l) (run_of ids k) q) (field_at (fields_of l) q).chunk) ≡ word (present_at (take m l) words ids)
    unfolding or_of any
    present_to zero h = sym (word_none (length ids) k _ (λ i b. refl))
    present_to (suc m) h =
        ap₂ bit_or (present_to m (omega arith))
        (ap₂ bit_and (mask_is m h) (ap (λ (f : FieldChunk). f.chunk) (field_is m h) ∙ word_presence (length ids) k (get_or l m no_column) words) ∙ word_and (length ids) k _ _)
        ∙ word_or (length ids) k _ _ ∙ word_ext (length ids) k _ _ (λ i b. sym (any_more (λ c. same_id (id_at ids i) c.id && present c words i) l m h))

    -- all of them
    selected_all : or_of (length (fields_of l)) (field_mask (fields_of l) (run_of ids k)) ≡ word (selected_at l ids)
    selected_all =
        ap (λ (m : ℕ). or_of m (field_mask (fields_of l) (run_of ids k))) (length-map l (field_chunk words (length ids) k)) ∙ selected_to (length l) (omega arith)
        ∙ ap (λ (x : List Column). word (selected_at x ids)) (take-length l)

    present_all : or_of (length (fields_of l)) (λ q. bit_and (field_mask (fields_of l) (run_of ids k) q) (field_at (fields_of l) q).chunk) ≡ word (present_at l words ids)
    present_all =
        ap (λ (m : ℕ). or_of m (λ q. bit_and (field_mask (fields_of l) (run_of ids k) q) (field_at (fields_of l) q).chunk)) (length-map l (field_chunk words (length ids) k))
        ∙ present_to (length l) (omega arith) ∙ ap (λ (x : List Column). word (present_at x words ids)) (take-length l)

  -- the word of each strategy
  one_is : (l : List Column) → 1 ≤ length l → skip_one_word (fields_of l) (run_of ids k) ≡ word (skip_one_at l words ids)
  unfolding skip_one_word skip_one_at
  one_is [] h = absurd (not-suc-le-zero h)
  one_is (c ∷ l) h =
      ap₂ (λ (x y : ℕ). bit_or x (bit_and (inverse y) (field_chunk words (length ids) k c).chunk)) (present_all l) (selected_all l)
      ∙ ap (bit_or (word (present_at l words ids)))
      (ap (bit_and (inverse (word (selected_at l ids)))) (word_presence (length ids) k c words) ∙ word_less (length ids) k _ _)
      ∙ word_or (length ids) k _ _

  without_is : (l : List Column) → skip_without_word (fields_of l) (run_of ids k) ≡ word (skip_without_at l words ids)
  unfolding skip_without_word skip_without_at
  without_is l =
      ap₂ (λ (x y : ℕ). bit_or x (inverse y) % 2 ^ length (run_of ids k)) (present_all l) (selected_all l)
      ∙ word_rest (length ids) k _ _ (length (run_of ids k)) (run_length ids k)

  fully_is : (l : List Column) → skip_fully_word (fields_of l) (run_of ids k) ≡ word (skip_fully_at l words ids)
  unfolding skip_fully_word skip_fully_at
  fully_is l = present_all l

  -- by what it takes up
  pub step_is : (over : Taken) (l : List Column) → (over ≡ All → 1 ≤ length l) → step_word over (fields_of l) (run_of ids k) ≡ word (step_at over l words ids)
  step_is All l some = one_is l (some refl)
  step_is WithNulls l some = without_is l
  step_is NotFull l some = fully_is l

  -- what a step is given, and what it makes
  module _ (over : Taken) (l : List Column) (fields : List FieldChunk) (run : List ℤ) (ef : fields ≡ fields_of l) (er : run ≡ run_of ids k) (some : over ≡ All → 1 ≤ length l) where
    pub run_ready : ValidIds l → Plain ids → StepReady over fields run
    run_ready valid plain = rw (ef, er) (record {
      run = record {
        short = omega (arith, run_length ids k);
        plain = λ j h. rw (run_at ids k j h) (plain (64 * k + j) (omega (arith, run_length ids k)));
        named = λ q h.
            let b : q < length l = omega (arith, length-map l (field_chunk words (length ids) k)) in
            rw (field_is l q b) (valid q b);
      };
      some = λ e. omega (arith, some e, length-map l (field_chunk words (length ids) k));
    })

    pub step_makes : (w : ℕ) → w ≡ step_word over fields run → w ≡ word (step_at over l words ids)
    step_makes w e = e ∙ ap₂ (step_word over) ef er ∙ step_is over l some

-- ---- the fields, read one at a time

fields_table : (f : Column → FieldChunk) (l : List Column) → table (length l) (λ q. f (get_or l q no_column)) ≡ map f l
fields_table f [] = refl
fields_table f (c ∷ l) = ap (λ (r : List FieldChunk). f c ∷ r) (fields_table f l)

-- the field of column q, and then those that were there
abbrev pub read_to : (Column → FieldChunk) → List Column → ℕ → List FieldChunk → List FieldChunk
read_to f l q old = retable q (λ q. f (get_or l q no_column)) old

pub read_all : (f : Column → FieldChunk) (l : List Column) (q : ℕ) (old : List FieldChunk) → q ≡ length l → take q (read_to f l q old) ≡ map f l
unfolding retable
read_all f l q old e =
    ap (λ (n : ℕ). take n (table n (λ q. f (get_or l q no_column)) ++ drop q old)) e
    ∙ ap₂ (λ (n : ℕ) (r : List FieldChunk). take n (r ++ drop q old)) (sym (length-map l f)) (fields_table f l) ∙ take-append_seam (map f l) (drop q old)
