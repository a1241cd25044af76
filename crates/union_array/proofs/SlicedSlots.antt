-- A slice of an accepted array is accepted, and its slot i is slot o + i of the array. Assumes nothing.
use mathlib.Core.Path.{◌≡◌, refl, sym, ap, ap₂, ◌∙◌}
use mathlib.Core.Bool.{Bool, true, false, cond, not, ◌&&◌, ◌||◌}
use mathlib.Core.Option.{Option, none, some}
use mathlib.Core.List.{List, [], ◌∷◌, ◌++◌, map}
use Prim.Native.Nat.{ℕ, zero, suc, ◌+◌, ◌*◌, ◌/◌, ◌%◌, ◌≤◌, ◌<◌}
use native.Mathlib.Nat.{add_assoc}
use native.Mathlib.Omega.{arith}
use borrow.Author.Tests.{le-leb, eqb-true, eq-eqb, lt-ltb}
use lib.Dec.{eqb, leb}
use lib.IntN.{ℤ, pos, nat_abs}
use lib.ListN.{length, get_or, take, drop}
use Rattle.bitmap.specs.Bits.{bit_at, same_id}
use Rattle.bitmap.proofs.Tables.{both}
use Rattle.union_array.specs.Types.{Layout, Sparse, Dense, Column, UnionArray, Amounts, by_layout}
use Rattle.array_columns.specs.Buffers.{Buffers, amounts_of}
use Rattle.array_columns.specs.Refusal.{no, ◌then◌, if_yes}
use Rattle.union_array.specs.Slots.{in_use, all, column_of, is_some, type_id_at, offset_at, child_at, present, null_in, slot_null}
use Rattle.union_array.specs.Questions.{valid_id, distinct, part_in, mask_in, column_in, question1, question2, question3, question4, question5, question6, within_child, asked, slot_checked}
use Rattle.union_array.specs.Lookup.{Value, column_value, value_in, no_value, value_of}
use Rattle.union_array.specs.Slices.{moved_column, sliced}
use Rattle.union_array.proofs.Accepted.{Accepted, all_yes, accepted, mask_part}
use Rattle.array_columns.proofs.Values.{inside}

-- ---- moved columns

abbrev pub map_option : (Column → Column) → Option Column → Option Column
map_option f none = none
map_option f (some c) = some (f c)

all_map : (p q : Column → Bool) (f : Column → Column) (cs : List Column) → ((c : Column) → q c ≡ true → p (f c) ≡ true) → all q cs ≡ true → all p (map f cs) ≡ true
all_map p q f [] h e = refl
all_map p q f (c ∷ cs) h e = let t = both (q c) (all q cs) e in ap₂ ◌&&◌ (h c t.0) (all_map p q f cs h t.1)

all_both : (p q : Column → Bool) (cs : List Column) → all p cs ≡ true → all q cs ≡ true → all (λ c. p c && q c) cs ≡ true
all_both p q [] e f = refl
all_both p q (c ∷ cs) e f =
    let s = both (p c) (all p cs) e in
    let t = both (q c) (all q cs) f in
    ap₂ ◌&&◌ (ap₂ ◌&&◌ s.0 t.0) (all_both p q cs s.1 t.1)

module _ (l : Layout) (o n : ℕ) where
  id_kept : (k : Layout) (c : Column) → (moved_column k o n c).id ≡ c.id
  id_kept Sparse c = refl
  id_kept Dense c = refl

  pub column_moved : (cs : List Column) (id : ℤ) → column_of (map (moved_column l o n) cs) id ≡ map_option (moved_column l o n) (column_of cs id)
  column_moved [] id = refl
  column_moved (c ∷ cs) id = rw (id_kept l c, column_moved cs id) (by (same_id c.id id))
    where
      by : (b : Bool) → cond b (some (moved_column l o n c)) (map_option (moved_column l o n) (column_of cs id)) ≡ map_option (moved_column l o n) (cond b (some c) (column_of cs id))
      by true = refl
      by false = refl

  some_moved : (c : Option Column) → is_some (map_option (moved_column l o n) c) ≡ is_some c
  some_moved none = refl
  some_moved (some c) = refl

  distinct_moved : (cs : List Column) → distinct (map (moved_column l o n) cs) ≡ distinct cs
  distinct_moved [] = refl
  distinct_moved (c ∷ cs) = rw (id_kept l c, column_moved cs c.id, some_moved (column_of cs c.id), distinct_moved cs)

  valid_moved : (c : Column) → valid_id c.id ≡ true → valid_id (moved_column l o n c).id ≡ true
  valid_moved c e = rw (id_kept l c) e

-- a column of k slots whose parts lie in lent memory, moved
part_moved : (o n k : ℕ) (lent : Amounts) (c : Column) → o + n ≤ k → c.slots ≡ k → column_in lent c ≡ true → column_in lent (moved_column Sparse o n c) ≡ true
unfolding column_in
part_moved o n k lent c h e p =
    let x = inside lent c p in
    rw (
      le-leb c.size 32 x.short,
      le-leb (c.name + c.size) lent.names x.name,
      le-leb (c.values + o + n) lent.values (omega (arith, x.values)),
    )
    (by c.masked refl)
  where
    by : (b : Bool) → c.masked ≡ b → mask_in (moved_column Sparse o n c) lent.masks ≡ true
    by false q = rw q
    by true q =
        rw q (le-leb (64 * (c.mask + (c.bit + o) / 64) + (c.bit + o) % 64 + n) (64 * lent.masks) (omega (arith, mask_part lent c (inside lent c p).mask q)))

-- the columns in use are moved, the others kept
pub in_use_sliced : (a : UnionArray) (o n : ℕ) → in_use (sliced a o n) ≡ map (moved_column a.layout o n) (in_use a)
unfolding sliced
in_use_sliced a o n = front a.fields a.columns
  where
    front : (k : ℕ) (cs : List Column) → take k (map (moved_column a.layout o n) (take k cs) ++ drop k cs) ≡ map (moved_column a.layout o n) (take k cs)
    front zero cs = refl
    front (suc k) [] = refl
    front (suc k) (c ∷ cs) = ap (λ (r : List Column). moved_column a.layout o n c ∷ r) (front k cs)

pub sliced-count : (a : UnionArray) (o n : ℕ) → n ≡ (sliced a o n).count
unfolding sliced
sliced-count a o n = refl

-- ---- a slice is accepted

module _ (a : UnionArray) (m : Buffers) (o n : ℕ) (y : Accepted a m) (h : o + n ≤ a.count) where
  columns_moved : (l : Layout) → a.layout ≡ l → all (column_in (amounts_of m)) (map (moved_column l o n) (in_use a)) ≡ true
  columns_moved Dense e = all_map (column_in (amounts_of m)) (column_in (amounts_of m)) (moved_column Dense o n) (in_use a) (λ c p. p) y.parts
  columns_moved Sparse e =
      all_map (column_in (amounts_of m)) (λ c. column_in (amounts_of m) c && eqb c.slots a.count) (moved_column Sparse o n) (in_use a)
      (λ c p. let t = both (column_in (amounts_of m) c) (eqb c.slots a.count) p in part_moved o n a.count (amounts_of m) c h (eqb-true c.slots a.count t.1) t.0)
      (all_both (column_in (amounts_of m)) (λ c. eqb c.slots a.count) (in_use a) y.parts (y.equal e))

  slots_moved : (l : Layout) → all (λ c. leb c.slots 65536) (map (moved_column l o n) (in_use a)) ≡ true
  slots_moved Dense = all_map (λ c. leb c.slots 65536) (λ c. leb c.slots 65536) (moved_column Dense o n) (in_use a) (λ c p. p) y.slots
  slots_moved Sparse =
      let w = y.count in
      all_map (λ c. leb c.slots 65536) (λ c. leb c.slots 65536) (moved_column Sparse o n) (in_use a) (λ c p. le-leb n 65536 (omega arith)) y.slots

  equal_moved : (l : Layout) → by_layout l (all (λ c. eqb c.slots n) (map (moved_column l o n) (in_use a))) true ≡ true
  equal_moved Dense = refl
  equal_moved Sparse = all_map (λ c. eqb c.slots n) (λ c. leb c.slots 65536) (moved_column Sparse o n) (in_use a) (λ c p. eq-eqb n n refl) y.slots

  offsets_moved : (l : Layout) → a.layout ≡ l
      → by_layout l true (part_in (by_layout l a.offsets_start (a.offsets_start + o)) (by_layout l a.offsets_count n) (length m.offsets)) ≡ true
  offsets_moved Sparse e = refl
  offsets_moved Dense e = le-leb (a.offsets_start + o + n) (length m.offsets) (omega (arith, y.offsets e))

  count_moved : (l : Layout) → by_layout l true (eqb (by_layout l a.offsets_count n) n) ≡ true
  count_moved Sparse = refl
  count_moved Dense = eq-eqb n n refl

  one : question1 (sliced a o n) ≡ true
  unfolding sliced question1
  one =
      rw (in_use_sliced a o n, le-leb a.fields 128 y.few, distinct_moved a.layout o n (in_use a), y.alone)
      (ap (λ (b : Bool). b && true) (all_map (λ c. valid_id c.id) (λ c. valid_id c.id) (moved_column a.layout o n) (in_use a) (valid_moved a.layout o n) y.valid))

  two : question2 (sliced a o n) ≡ true
  unfolding sliced
  two = eq-eqb a.children a.fields y.children

  three : question3 (sliced a o n) (amounts_of m) ≡ true
  unfolding sliced question3
  three =
      let w = y.ids in
      rw (in_use_sliced a o n, le-leb (a.start + o + n) (length m.ids) (omega arith), offsets_moved a.layout refl, columns_moved a.layout refl)

  four : question4 (sliced a o n) ≡ true
  unfolding sliced question4
  four = let w = y.count in rw (in_use_sliced a o n, le-leb n 65536 (omega arith), slots_moved a.layout)

  five : question5 (sliced a o n) ≡ true
  unfolding sliced question5
  five = count_moved a.layout

  six : question6 (sliced a o n) ≡ true
  unfolding sliced question6
  six = rw (in_use_sliced a o n) (equal_moved a.layout)

  pub sliced-asked : asked (sliced a o n) m ≡ 0
  sliced-asked = all_yes (sliced a o n) m (record { q1 = one; q2 = two; q3 = three; q4 = four; q5 = five; q6 = six })

-- ---- a slot of a slice

-- 7 and 8 of a slot, by its child and its offset
abbrev pub slot_asked : Layout → Option Column → ℤ → ℕ
slot_asked l c z = no 7 (is_some c) then no 8 (by_layout l true (within_child z c))

-- a slot's value, by its child, its offset and its place
abbrev pub told : Layout → Buffers → Option Column → ℤ → ℕ → Value
told l m c z i = if_yes (slot_asked l c z) (value_in c m (by_layout l i (nat_abs z))) (no_value (slot_asked l c z))

pub slot_asked_lem : (a : UnionArray) (m : Buffers) (i : ℕ) → asked a m ≡ 0 → i < a.count → slot_checked a m i ≡ slot_asked a.layout (child_at a m i) (offset_at a m i)
unfolding slot_checked
slot_asked_lem a m i e h = rw (e, lt-ltb i a.count h)

pub value_told : (a : UnionArray) (m : Buffers) (i : ℕ) → asked a m ≡ 0 → i < a.count → value_of a m i ≡ told a.layout m (child_at a m i) (offset_at a m i) i
unfolding value_of
value_told a m i e h = rw (slot_asked_lem a m i e h)

-- a child's slot i after the move is its slot o + i before
pub present_moved : (m : Buffers) (c : Column) (o n i : ℕ) → present (moved_column Sparse o n c) m i ≡ present c m (o + i)
unfolding present
present_moved m c o n i = by c.masked
  where
    by : (b : Bool) → (not b || bit_at m.masks (64 * cond b (c.mask + (c.bit + o) / 64) c.mask + cond b ((c.bit + o) % 64) c.bit + i))
        ≡ (not b || bit_at m.masks (64 * c.mask + c.bit + (o + i)))
    by false = refl
    by true = let e : 64 * (c.mask + (c.bit + o) / 64) + (c.bit + o) % 64 + i ≡ 64 * c.mask + c.bit + (o + i) = omega arith in rw e

value_moved : (m : Buffers) (c : Column) (o n i : ℕ) → column_value (moved_column Sparse o n c) m i ≡ column_value c m (o + i)
unfolding column_value
value_moved m c o n i = rw (present_moved m c o n i, add_assoc c.values o i)

told_moved : (l : Layout) (m : Buffers) (o n i : ℕ) (c : Option Column) (z : ℤ) → told l m (map_option (moved_column l o n) c) z i ≡ told l m c z (o + i)
told_moved Dense m o n i none z = refl
told_moved Dense m o n i (some c) z = refl
told_moved Sparse m o n i none z = refl
told_moved Sparse m o n i (some c) z = value_moved m c o n i

-- a sparse slot's offset does not matter, a dense one's is moved
offset_moved : (l : Layout) (m : Buffers) (c : Option Column) (f o i j : ℕ)
    → told l m c (get_or m.offsets (by_layout l f (f + o) + i) (pos 0)) j ≡ told l m c (get_or m.offsets (f + (o + i)) (pos 0)) j
offset_moved Sparse m none f o i j = refl
offset_moved Sparse m (some c) f o i j = refl
offset_moved Dense m c f o i j = rw (add_assoc f o i)

-- a null slot, by its child, its offset and its place
abbrev null_at : Layout → Buffers → Option Column → ℤ → ℕ → Bool
null_at l m c z i = null_in c m (by_layout l i (nat_abs z))

null_moved : (l : Layout) (m : Buffers) (o n i : ℕ) (c : Option Column) (z : ℤ) → null_at l m (map_option (moved_column l o n) c) z i ≡ null_at l m c z (o + i)
null_moved Dense m o n i none z = refl
null_moved Dense m o n i (some c) z = refl
null_moved Sparse m o n i none z = refl
null_moved Sparse m o n i (some c) z = ap not (present_moved m c o n i)

null_offset : (l : Layout) (m : Buffers) (c : Option Column) (f o i j : ℕ)
    → null_at l m c (get_or m.offsets (by_layout l f (f + o) + i) (pos 0)) j ≡ null_at l m c (get_or m.offsets (f + (o + i)) (pos 0)) j
null_offset Sparse m c f o i j = refl
null_offset Dense m c f o i j = rw (add_assoc f o i)

module _ (a : UnionArray) (m : Buffers) (o n i : ℕ) where
  pub type_id_sliced : type_id_at (sliced a o n) m i ≡ type_id_at a m (o + i)
  unfolding sliced
  type_id_sliced = rw (add_assoc a.start o i)

  pub child-sliced : child_at (sliced a o n) m i ≡ map_option (moved_column a.layout o n) (child_at a m (o + i))
  child-sliced =
      ap (λ (cs : List Column). column_of cs (type_id_at (sliced a o n) m i)) (in_use_sliced a o n)
      ∙ ap (column_of (map (moved_column a.layout o n) (in_use a))) type_id_sliced ∙ column_moved a.layout o n (in_use a) (type_id_at a m (o + i))

  pub sliced_null : slot_null (sliced a o n) m i ≡ slot_null a m (o + i)
  unfolding slot_null sliced
  sliced_null =
      ap (λ (c : Option Column). null_at a.layout m c (offset_at (sliced a o n) m i) i) child-sliced
      ∙ null_offset a.layout m (map_option (moved_column a.layout o n) (child_at a m (o + i))) a.offsets_start o i i
      ∙ null_moved a.layout m o n i (child_at a m (o + i)) (offset_at a m (o + i))

  pub sliced_value : asked a m ≡ 0 → o + n ≤ a.count → i < n → value_of (sliced a o n) m i ≡ value_of a m (o + i)
  unfolding sliced
  sliced_value e h q =
      let w : o + i < a.count = omega arith in
      value_told (sliced a o n) m i (sliced-asked a m o n (accepted a m e) h) q
      ∙ ap (λ (c : Option Column). told a.layout m c (offset_at (sliced a o n) m i) i) child-sliced
      ∙ offset_moved a.layout m (map_option (moved_column a.layout o n) (child_at a m (o + i))) a.offsets_start o i i
      ∙ told_moved a.layout m o n i (child_at a m (o + i)) (offset_at a m (o + i)) ∙ sym (value_told a m (o + i) e w)
