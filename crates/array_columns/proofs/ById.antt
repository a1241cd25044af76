-- A table by type id has at an id's entry what its first column with the id gives. Assumes nothing.
use mathlib.Core.Bool.{Bool, true, false, cond, false≢true}
use mathlib.Core.Option.{Option, none, some}
use mathlib.Core.List.{List, [], ◌∷◌}
use mathlib.Core.Path.{◌≡◌, refl, sym, ap, ◌∙◌, subst}
use Prim.Native.Nat.{ℕ, zero, suc, ◌+◌, ◌-◌, ◌<◌, ◌≤◌}
use native.Mathlib.Nat.{not-suc-le-zero, le_of_suc-le-suc}
use native.Mathlib.Omega.{arith}
use lib.Dec.{eqb}
use lib.IntN.{ℤ, pos, negsuc}
use lib.ListN.{length, get_or, set, drop, length-set, drop_of_length-le, replicate}
use lib.Signed.{mag}
use lib.Seq.{drop-cons, get_or-set_same, get_or-set_other}
use borrow.Author.Tests.{le-ltb, ltb-true, ne_eqb, eqb-true, eqb-false}
use Rattle.bitmap.specs.Bits.{same_id}
use Rattle.bitmap.proofs.Tables.{both}
use Rattle.array_columns.specs.Types.{Column, no_column}
use Rattle.array_columns.specs.Slots.{all, column_of, is_some}
use Rattle.array_columns.specs.Questions.{valid_id, within, within_child}
use Rattle.array_columns.specs.Lookup.{or_none}
use Rattle.array_columns.specs.Pass.{entry_of}
use Rattle.array_columns.specs.ById.{by_id, IsById, slot_table}

-- ---- the table as it is filled, from the last column down

module _ {A : Type 0} (R : ℕ → A → Type 0) (rest : A) (cs : List Column) where
  -- before the first store
  pub filled_none : IsById R rest (length cs) (drop (length cs) cs) (replicate 256 rest)
  filled_none = let l : length cs ≤ length cs = omega arith in rw (drop_of_length-le cs l) refl

  at_place : (i : ℕ) (t : List A) (entry : ℕ) (v : A) → i < length cs → IsById R rest (suc i) (drop (suc i) cs) t
      → entry ≡ entry_of (get_or cs i no_column).id → R i v → IsById R rest i (drop i cs) (set t entry v)
  at_place i t entry v l h p r = rw (drop-cons cs i no_column l, p) (t, v, h, r, refl)

  -- one store more
  pub filled_turn : (j : ℕ) (t : List A) (entry : ℕ) (v : A) → 0 < j → j ≤ length cs → IsById R rest j (drop j cs) t
      → entry ≡ entry_of (get_or cs (j - 1) no_column).id → R (j - 1) v → IsById R rest (j - 1) (drop (j - 1) cs) (set t entry v)
  filled_turn j t entry v a b h p r =
      let s : j ≡ suc (j - 1) = omega arith in
      at_place (j - 1) t entry v (omega arith) (subst (λ (x : ℕ). IsById R rest x (drop x cs) t) s h) p r

module _ (rest : ℕ) (v : ℕ → Column → ℕ) where
  -- where R says what the value is
  pub filled_is : (R : ℕ → ℕ → Type 0) (k : ℕ) (cs : List Column) (t : List ℕ) → ((j x : ℕ) → j < length cs → R (k + j) x → x ≡ v (k + j) (get_or cs j no_column))
      → IsById R rest k cs t → t ≡ by_id rest v k cs
  unfolding by_id
  filled_is R k [] t f h = h
  filled_is R k (c ∷ cs) t f h =
      let zero_more : k + 0 ≡ k = omega arith in
      let head : h.1 ≡ v k c = rw zero_more at (f 0 h.1 (omega arith)) h.3 in
      h.4
      ∙ rw (
        head,
        filled_is R (suc k) cs h.0
            (λ j x l r. let more : k + suc j ≡ suc k + j = omega arith in rw more at (f (suc j) x (omega arith)) r)
            h.2,
      )

  pub table_length : (k : ℕ) (cs : List Column) → length (by_id rest v k cs) ≡ 256
  unfolding by_id
  table_length k [] = refl
  table_length k (c ∷ cs) = length-set (by_id rest v (suc k) cs) (entry_of c.id) (v k c) ∙ table_length (suc k) cs

-- ---- an entry

-- v of the first column with the id and of its place from k on, `rest` if there is none
abbrev pub first_with : ℕ → (ℕ → Column → ℕ) → ℕ → List Column → ℤ → ℕ
first_with rest v k [] id = rest
first_with rest v k (c ∷ cs) id = cond (same_id c.id id) (v k c) (first_with rest v (suc k) cs id)

stored : (t : List ℕ) (n k v : ℕ) → k < length t → (b : Bool) → eqb n k ≡ b → get_or (set t n v) k 0 ≡ cond b v (get_or t k 0)
stored t n k v l true e = let q = eqb-true n k e in rw q (get_or-set_same t k v 0 l)
stored t n k v l false e = get_or-set_other t n k v 0 (λ q. eqb-false n k e (sym q))

same_entry : (z id : ℤ) → valid_id z ≡ true → mag id < 128 → eqb (entry_of z) (entry_of id) ≡ same_id z id
unfolding same_id
same_entry (pos n) (pos k) v l = refl
same_entry (pos n) (negsuc k) v l = let h = ltb-true n 128 v in ne_eqb n 255 (λ q. omega arith)
same_entry (negsuc n) id v l = absurd (false≢true v)

entry_low : (id : ℤ) → mag id < 128 → entry_of id < 256
entry_low (pos n) l = omega arith
entry_low (negsuc n) l = omega arith

filled : (n k v : ℕ) → k < n → get_or (replicate n v) k 0 ≡ v
filled zero k v h = absurd (not-suc-le-zero h)
filled (suc n) zero v h = refl
filled (suc n) (suc k) v h = filled n k v (le_of_suc-le-suc h)

pub table_at : (rest : ℕ) (v : ℕ → Column → ℕ) (cs : List Column) (k : ℕ) (id : ℤ) → all (λ c. valid_id c.id) cs ≡ true → mag id < 128
    → get_or (by_id rest v k cs) (entry_of id) 0 ≡ first_with rest v k cs id
unfolding by_id
table_at rest v [] k id h l = filled 256 (entry_of id) rest (entry_low id l)
table_at rest v (c ∷ cs) k id h l =
    let y = both (valid_id c.id) (all (λ c. valid_id c.id) cs) h in
    let w = table_length rest v (suc k) cs in
    let b = entry_low id l in
    stored (by_id rest v (suc k) cs) (entry_of c.id) (entry_of id) (v k c) (omega arith) (same_id c.id id) (same_entry c.id id y.0 l)
    ∙ ap (λ (x : ℕ). cond (same_id c.id id) (v k c) x) (table_at rest v cs (suc k) id y.1 l)

-- ---- slot counts

slots_of_lem : (cs : List Column) (k : ℕ) (id : ℤ) → first_with 0 (λ k c. c.slots) k cs id ≡ (or_none (column_of cs id)).slots
slots_of_lem [] k id = refl
slots_of_lem (c ∷ cs) k id = by (same_id c.id id) (slots_of_lem cs (suc k) id)
  where
    by : (b : Bool) → first_with 0 (λ k c. c.slots) (suc k) cs id ≡ (or_none (column_of cs id)).slots
        → cond b c.slots (first_with 0 (λ k c. c.slots) (suc k) cs id) ≡ (or_none (cond b (some c) (column_of cs id))).slots
    by true e = refl
    by false e = e

within-child : (z : ℤ) (o : Option Column) → within z (or_none o).slots ≡ within_child z o
within-child (pos k) none = le-ltb k 0 (omega arith)
within-child (negsuc k) none = refl
within-child z (some c) = refl

-- an offset lies within the child that a type id names
pub table-within : (cs : List Column) (z id : ℤ) → all (λ c. valid_id c.id) cs ≡ true → mag id < 128
    → within z (get_or (slot_table cs) (entry_of id) 0) ≡ within_child z (column_of cs id)
table-within cs z id h l = rw (table_at 0 (λ k c. c.slots) cs 0 id h l, slots_of_lem cs 0 id) (within-child z (column_of cs id))

-- ---- places

abbrev pub place_of : ℕ → List Column → ℤ → ℕ
place_of k cs id = first_with 128 (λ k c. k) k cs id

-- no column has the id
pub none_at : (cs : List Column) (k : ℕ) (id : ℤ) → k + length cs ≤ 128 → 128 ≤ place_of k cs id → column_of cs id ≡ none
none_at [] k id h p = refl
none_at (c ∷ cs) k id h p = by (same_id c.id id) p (λ q. none_at cs (suc k) id (omega arith) q)
  where
    by : (b : Bool) → 128 ≤ cond b k (place_of (suc k) cs id) → (128 ≤ place_of (suc k) cs id → column_of cs id ≡ none) → cond b (some c) (column_of cs id) ≡ none
    by true p more = absurd (omega arith)
    by false p more = more p

-- a column has it
pub some_at : (cs : List Column) (k : ℕ) (id : ℤ) (f : ℕ → Column) → ((j : ℕ) → j < length cs → f (k + j) ≡ get_or cs j no_column)
    → place_of k cs id < 128 → column_of cs id ≡ some (f (place_of k cs id))
some_at [] k id f h p = absurd (omega arith)
some_at (c ∷ cs) k id f h p =
    let zero_more : k + 0 ≡ k = omega arith in
    by (same_id c.id id) p (rw zero_more at (h 0 (omega arith)))
    (some_at cs (suc k) id f (λ j l. let one_more : suc k + j ≡ k + suc j = omega arith in ap f one_more ∙ h (suc j) (omega arith)))
  where
    by : (b : Bool) → cond b k (place_of (suc k) cs id) < 128 → f k ≡ c → (place_of (suc k) cs id < 128 → column_of cs id ≡ some (f (place_of (suc k) cs id)))
        → cond b (some c) (column_of cs id) ≡ some (f (cond b k (place_of (suc k) cs id)))
    by true p head more = ap some (sym head)
    by false p head more = more p

pub low_at : (cs : List Column) (k : ℕ) (id : ℤ) → k + length cs ≤ 128 → is_some (column_of cs id) ≡ true → place_of k cs id < 128
low_at [] k id h s = absurd (false≢true s)
low_at (c ∷ cs) k id h s = by (same_id c.id id) s (λ q. low_at cs (suc k) id (omega arith) q)
  where
    by : (b : Bool) → is_some (cond b (some c) (column_of cs id)) ≡ true → (is_some (column_of cs id) ≡ true → place_of (suc k) cs id < 128) → cond b k (place_of (suc k) cs id) < 128
    by true s more = omega arith
    by false s more = more s
