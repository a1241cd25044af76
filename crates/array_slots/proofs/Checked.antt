-- Questions 7 and 8 of every slot, as the code asks them. Assumes nothing.
use Rattle.std.proofs.Common.{◌≡◌, refl, sym, ap, ◌∙◌, Bool, true, false, cond, ◌&&◌, ℕ, zero, suc, ◌+◌, ◌<◌, ◌≤◌, eqb, List, [], ◌∷◌, length, get_or, set, take, drop, replicate, ℤ, pos, negsuc, arith}
use mathlib.Core.Bool.{false≢true}
use Rattle.std.specs.List.{list_all, zip}
use Rattle.std.proofs.Math.Seq.{get_or-set_same, get_or-set_other}
use Rattle.std.proofs.Math.Option.{Option, none, some}
use Rattle.std.proofs.lemmas.List.{get_or-drop, length-drop}
use borrow.Author.Tests.{le-ltb, ltb-true, eqb-true, eqb-false, ne_eqb}
use Rattle.bitmap.specs.Lists.{every}
use Rattle.bitmap.specs.Bits.{same_id}
use Rattle.bitmap.proofs.Tables.{both, every_ext, every-all}
use Rattle.array_slots.specs.Types.{Layout, Sparse, Dense, Column, Head, by_layout}
use Rattle.array_columns.specs.Slots.{all, column_of, is_some}
use Rattle.array_columns.specs.Questions.{valid_id, within, within_child}
use Rattle.array_columns.specs.Lookup.{or_none}
use Rattle.array_columns.specs.Pass.{entry_of}
use Rattle.array_columns.specs.ById.{by_id, slot_table}
use Rattle.array_columns.proofs.ById.{table_length}
use Rattle.array_slots.proofs.Parts.{part, part_is}
use Rattle.array_slots.specs.Slots.{used, named_at, within_at, fits_at}
use Rattle.array_slots.specs.Check.{Readable, slots_checked}

-- ---- a part of a list, item by item

and_assoc : (a b c : Bool) → (a && (b && c)) ≡ ((a && b) && c)
and_assoc true b c = refl
and_assoc false b c = refl

-- the first number apart
every_head : (n : ℕ) (p : ℕ → Bool) → every (suc n) p ≡ (p 0 && every n (λ i. p (suc i)))
every_head zero p = by (p 0)
  where
    by : (b : Bool) → (true && b) ≡ (b && true)
    by true = refl
    by false = refl
every_head (suc n) p = rw (every_head n p) (sym (and_assoc (p 0) (every n (λ i. p (suc i))) (p (suc n))))

list_every : {X : Type 0} (p : X → Bool) (n : ℕ) (xs : List X) (d : X) → n ≤ length xs → list_all p (take n xs) ≡ every n (λ i. p (get_or xs i d))
list_every p zero xs d h = refl
list_every p (suc n) [] d h = absurd (omega arith)
list_every p (suc n) (x ∷ xs) d h =
    ap (λ (b : Bool). p x && b) (list_every p n xs d (omega arith)) ∙ sym (every_head n (λ i. p (get_or (x ∷ xs) i d)))

zip_every : {X Y : Type 0} (p : X × Y → Bool) (n : ℕ) (xs : List X) (ys : List Y) (d : X) (e : Y) → n ≤ length xs → n ≤ length ys
    → list_all p (zip (take n xs) (take n ys)) ≡ every n (λ i. p (get_or xs i d, get_or ys i e))
zip_every p zero xs ys d e h k = refl
zip_every p (suc n) [] ys d e h k = absurd (omega arith)
zip_every p (suc n) (x ∷ xs) [] d e h k = absurd (omega arith)
zip_every p (suc n) (x ∷ xs) (y ∷ ys) d e h k =
    ap (λ (b : Bool). p (x, y) && b) (zip_every p n xs ys d e (omega arith) (omega arith)) ∙ sym (every_head n (λ i. p (get_or (x ∷ xs) i d, get_or (y ∷ ys) i e)))

-- ---- the table of slots

stored : (t : List ℕ) (j k v : ℕ) → j < length t → get_or (set t j v) k 0 ≡ cond (eqb j k) v (get_or t k 0)
stored t j k v l = by (eqb j k) refl
  where
    by : (b : Bool) → eqb j k ≡ b → get_or (set t j v) k 0 ≡ cond b v (get_or t k 0)
    by true e = let q = eqb-true j k e in rw (← q) (get_or-set_same t j v 0 l)
    by false e = get_or-set_other t j k v 0 (λ q. eqb-false j k e (sym q))

same_entry : (j : ℕ) (id : ℤ) → j < 128 → eqb j (entry_of id) ≡ same_id (pos j) id
unfolding same_id
same_entry j (pos k) l = refl
same_entry j (negsuc k) l = ne_eqb j 255 (λ q. omega arith)

zeros : (n k : ℕ) → ◌≡◌ {A = ℕ} (get_or (replicate n 0) k 0) 0
zeros zero k = refl
zeros (suc n) zero = refl
zeros (suc n) (suc k) = zeros n k

-- it has the slots of the column with an id, and none if there is no such column
slots_in_table : (cs : List Column) (k : ℕ) (id : ℤ) → all (λ c. valid_id c.id) cs ≡ true
    → get_or (by_id 0 (λ k c. c.slots) k cs) (entry_of id) 0 ≡ (or_none (column_of cs id)).slots
unfolding by_id
slots_in_table [] k id v = zeros 256 (entry_of id)
slots_in_table (c ∷ cs) k id v =
    let y = both (valid_id c.id) (all (λ c. valid_id c.id) cs) v in
    by c.id refl y.0 (slots_in_table cs (suc k) id y.1)
  where
    more : (b : Bool) → cond b c.slots (or_none (column_of cs id)).slots ≡ (or_none (cond b (some c) (column_of cs id))).slots
    more true = refl
    more false = refl

    by : (z : ℤ) → z ≡ c.id → valid_id z ≡ true → get_or (by_id 0 (λ k c. c.slots) (suc k) cs) (entry_of id) 0 ≡ (or_none (column_of cs id)).slots
        → get_or (set (by_id 0 (λ k c. c.slots) (suc k) cs) (entry_of z) c.slots) (entry_of id) 0 ≡ (or_none (cond (same_id c.id id) (some c) (column_of cs id))).slots
    by (negsuc j) q u e = absurd (false≢true u)
    by (pos j) q u e =
        let l = ltb-true j 128 u in
        let t = table_length 0 (λ k c. c.slots) (suc k) cs in
        stored (by_id 0 (λ k c. c.slots) (suc k) cs) j (entry_of id) c.slots (omega arith) ∙ rw (same_entry j id l, e, q) (more (same_id c.id id))

within_none : (z : ℤ) (o : Option Column) → within z (or_none o).slots ≡ within_child z o
within_none (pos k) none = le-ltb k 0 (omega arith)
within_none (negsuc k) none = refl
within_none z (some c) = refl

-- so an offset is looked up in the child that a type id names
table_within : (cs : List Column) (id z : ℤ) → all (λ c. valid_id c.id) cs ≡ true → within z (get_or (slot_table cs) (entry_of id) 0) ≡ within_child z (column_of cs id)
table_within cs id z v = rw (slots_in_table cs 0 id v) (within_none z (column_of cs id))

-- ---- 7 and 8

-- the code's answers: of each type id, and of each type id and offset
abbrev pub all_named : List Column → List ℤ → Bool
all_named cs ids = list_all (λ id. is_some (column_of cs id)) ids

abbrev pub all_within : List Column → List ℤ → List ℤ → Bool
all_within cs ids offsets = list_all (λ p. within p.1 (get_or (slot_table cs) (entry_of p.0) 0)) (zip ids offsets)

module _ (h : Head) (columns : List Column) (ids offsets : List ℤ) (y : Readable h columns ids offsets) where
  abbrev here : List ℤ
  here = part h.start h.count ids

  abbrev there : List ℤ
  there = part h.offsets_start h.count offsets

  seven_is : all_named (used h columns) here ≡ every h.count (named_at h columns ids)
  seven_is =
      let l = y.ids_in in
      rw (part_is h.start h.count ids)
      (list_every (λ id. is_some (column_of (used h columns) id)) h.count (drop h.start ids) (pos 0) (rw length-drop (omega arith))
      ∙ every_ext h.count _ (named_at h columns ids) (λ i k. ap (λ id. is_some (column_of (used h columns) id)) (get_or-drop h.start ids i (pos 0))))

  eight_is : h.layout ≡ Dense → all_within (used h columns) here there ≡ every h.count (within_at h columns ids offsets)
  eight_is d =
      let l = y.ids_in in
      let m = y.offsets_in d in
      rw (part_is h.start h.count ids, part_is h.offsets_start h.count offsets)
      (zip_every (λ p. within p.1 (get_or (slot_table (used h columns)) (entry_of p.0) 0)) h.count (drop h.start ids) (drop h.offsets_start offsets) (pos 0) (pos 0)
      (rw length-drop (omega arith)) (rw length-drop (omega arith))
      ∙ every_ext h.count _ (within_at h columns ids offsets)
      (λ i k. rw (get_or-drop h.start ids i (pos 0), get_or-drop h.offsets_start offsets i (pos 0)) (table_within (used h columns) (get_or ids (h.start + i) (pos 0)) _ y.valid)))

  -- 8 of every slot, by the layout
  fits_dense : h.layout ≡ Dense → every h.count (fits_at h columns ids offsets) ≡ all_within (used h columns) here there
  fits_dense e =
      every_ext h.count (fits_at h columns ids offsets) (within_at h columns ids offsets)
      (λ i l. ap (λ (x : Layout). by_layout x true (within_at h columns ids offsets i)) e) ∙ sym (eight_is e)

  fits_sparse : h.layout ≡ Sparse → every h.count (fits_at h columns ids offsets) ≡ true
  fits_sparse e =
      every-all h.count (fits_at h columns ids offsets) (λ i l. ap (λ (x : Layout). by_layout x true (within_at h columns ids offsets i)) e)

  pub slots_seven : all_named (used h columns) here ≡ false → 7 ≡ slots_checked h columns ids offsets
  unfolding slots_checked
  slots_seven e = rw (← seven_is, e)

  module _ (named : all_named (used h columns) here ≡ true) where
    pub slots_eight : h.layout ≡ Dense → all_within (used h columns) here there ≡ false → 8 ≡ slots_checked h columns ids offsets
    unfolding slots_checked
    slots_eight d e = rw (← seven_is, named, fits_dense d, e)

    pub slots_dense : h.layout ≡ Dense → all_within (used h columns) here there ≡ true → 0 ≡ slots_checked h columns ids offsets
    unfolding slots_checked
    slots_dense d e = rw (← seven_is, named, fits_dense d, e)

    pub slots_sparse : h.layout ≡ Sparse → 0 ≡ slots_checked h columns ids offsets
    unfolding slots_checked
    slots_sparse d = rw (← seven_is, named, fits_sparse d)
