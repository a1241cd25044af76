-- The table of Gather: the entry of an id, and that its bit is the null mask's. Assumes nothing.
use mathlib.Core.Path.{◌≡◌, refl, sym, ap, ◌∙◌, subst}
use mathlib.Core.Bool.{Bool, true, false, cond, not, false≢true}
use mathlib.Core.List.{List, [], ◌∷◌}
use mathlib.Core.Option.{Option, none, some}
use Prim.Native.Nat.{ℕ, zero, suc, ◌<◌}
use native.Mathlib.Omega.{arith}
use native.Mathlib.Nat.{not-suc-le-zero, le_of_suc-le-suc}
use borrow.Author.Tests.{not-true}
use lib.Dec.{T}
use lib.ListN.{get_or, set, length, replicate, length-set, length-replicate}
use lib.Seq.{get_or-set_same, get_or-set_other}
use lib.IntN.{ℤ, pos, negsuc, nat_abs}
use lib.Signed.{non_neg}
use Rattle.bitmap.specs.Bits.{same_id}
use Rattle.bitmap.proofs.Ids.{same_id_eq, same_id_ne}
use Rattle.bitmap.proofs.Tables.{both}
use Rattle.array_columns.specs.declared.Column.{Column}
use Rattle.array_columns.specs.declared.Layout.{Layout}
use Rattle.union_array.specs.declared.UnionArray.{UnionArray}
use Rattle.union_array.specs.Types.{no_column, by_layout}
use Rattle.array_columns.specs.Buffers.{Buffers}
use Rattle.union_array.specs.Slots.{in_use, all, column_of, is_some, type_id_at, offset_at, child_at, slot_at, present, slot_null}
use Rattle.union_array.specs.Questions.{valid_id, distinct, presence_in, within, within_child}
use Rattle.union_array.specs.Lookup.{or_none}
use Rattle.array_columns.proofs.Columns.{found_id}
use Rattle.union_array.proofs.Accepted.{ColumnAccepted, AllAccepted, child_accepted}
use Rattle.array_columns.proofs.Present.{no_mask_lem, presence_accepted, no_bits}
use Rattle.null_strategy.specs.Fields.{has_nulls, state_of}
use Rattle.null_strategy.proofs.FieldStates.{all-present}
use Rattle.mask_words.specs.declared.Taken.TheVariants.{WithNulls}
use Rattle.mask_words.specs.Steps.{taken_of, id_at}
use Rattle.mask_words.proofs.ValidIds.{valid_plain}
use Rattle.gather_table.specs.Table.{without_nulls, stored, table_of, table_entry, gathered_at, Gathers}
use Rattle.logical_nulls.proofs.Strategies.{OwnIds, its_child, its_slot, its_bit}

-- ---- the entry of an id

abs_inj : (a b : ℤ) → T (non_neg a) → T (non_neg b) → nat_abs a ≡ nat_abs b → a ≡ b
abs_inj (pos a) (pos b) p q e = ap pos e
abs_inj (pos a) (negsuc b) p q e = absurd q
abs_inj (negsuc a) b p q e = absurd p

-- a column is stored if it has a null
abbrev store : Bool → List Column → ℕ → Column → List Column
store true t i c = set t i c
store false t i c = t

store_length : (b : Bool) (t : List Column) (i : ℕ) (c : Column) → length (store b t i c) ≡ length t
store_length true t i c = length-set t i c
store_length false t i c = refl

store_other : (b : Bool) (t : List Column) (i j : ℕ) (c : Column) → (j ≡ i → ⊥) → get_or (store b t i c) j no_column ≡ get_or t j no_column
store_other true t i j c h = get_or-set_other t i j c no_column h
store_other false t i j c h = refl

store_own : (b : Bool) (t : List Column) (i : ℕ) (c : Column) → i < length t → get_or t i no_column ≡ without_nulls → get_or (store b t i c) i no_column ≡ cond b c without_nulls
store_own true t i c h e = get_or-set_same t i c no_column h
store_own false t i c h e = e

module _ (m : Buffers) (z : ℤ) (nz : T (non_neg z)) where
  apart : (c : Column) → valid_id c.id ≡ true → same_id c.id z ≡ false → nat_abs z ≡ nat_abs c.id → ⊥
  apart c v s q = same_id_ne c.id z s (sym (abs_inj z c.id nz (valid_plain c.id v).0 q))

  -- one step: a column with a null is stored at its id
  abbrev put : List Column → Column → List Column
  put t c = store (has_nulls (state_of m c)) t (nat_abs c.id) c

  put_is : (t : List Column) (c : Column) (cs : List Column) → stored t (taken_of WithNulls m (c ∷ cs)) ≡ stored (put t c) (taken_of WithNulls m cs)
  unfolding taken_of stored
  put_is t c cs = at (has_nulls (state_of m c))
    where
      at : (b : Bool) → stored t (cond b (c ∷ taken_of WithNulls m cs) (taken_of WithNulls m cs)) ≡ stored (store b t (nat_abs c.id) c) (taken_of WithNulls m cs)
      at true = refl
      at false = refl

  -- no column of the id: the entry stays
  kept : (cs : List Column) (t : List Column) → all (λ c. valid_id c.id) cs ≡ true → is_some (column_of cs z) ≡ false
      → get_or (stored t (taken_of WithNulls m cs)) (nat_abs z) no_column ≡ get_or t (nat_abs z) no_column
  unfolding stored taken_of
  kept [] t v e = refl
  kept (c ∷ cs) t v e = ap (λ (l : List Column). get_or l (nat_abs z) no_column) (put_is t c cs) ∙ at (same_id c.id z) refl e (kept cs (put t c) w.1)
    where
      w : (valid_id c.id ≡ true) × (all (λ c. valid_id c.id) cs ≡ true)
      w = both (valid_id c.id) (all (λ c. valid_id c.id) cs) v

      at : (b : Bool) → same_id c.id z ≡ b → is_some (cond b (some c) (column_of cs z)) ≡ false
          → (is_some (column_of cs z) ≡ false → get_or (stored (put t c) (taken_of WithNulls m cs)) (nat_abs z) no_column ≡ get_or (put t c) (nat_abs z) no_column)
          → get_or (stored (put t c) (taken_of WithNulls m cs)) (nat_abs z) no_column ≡ get_or t (nat_abs z) no_column
      at true s e r = absurd (false≢true (sym e))
      at false s e r = r e ∙ store_other (has_nulls (state_of m c)) t (nat_abs c.id) (nat_abs z) c (apart c w.0 s)

  entry_of_lem : (cs : List Column) (t : List Column) (c : Column) → all (λ c. valid_id c.id) cs ≡ true → distinct cs ≡ true → length t ≡ 256 → column_of cs z ≡ some c
      → get_or t (nat_abs z) no_column ≡ without_nulls → get_or (stored t (taken_of WithNulls m cs)) (nat_abs z) no_column ≡ cond (has_nulls (state_of m c)) c without_nulls
  unfolding stored taken_of
  entry_of_lem [] t c v d n f e = absurd (false≢true (ap is_some f))
  entry_of_lem (x ∷ cs) t c v d n f e = ap (λ (l : List Column). get_or l (nat_abs z) no_column) (put_is t x cs) ∙ at (same_id x.id z) refl f (entry_of_lem cs (put t x) c w.1 u.1 (store_length (has_nulls (state_of m x)) t (nat_abs x.id) x ∙ n))
    where
      w : (valid_id x.id ≡ true) × (all (λ c. valid_id c.id) cs ≡ true)
      w = both (valid_id x.id) (all (λ c. valid_id c.id) cs) v

      u : (not (is_some (column_of cs x.id)) ≡ true) × (distinct cs ≡ true)
      u = both (not (is_some (column_of cs x.id))) (distinct cs) d

      at : (b : Bool) → same_id x.id z ≡ b → cond b (some x) (column_of cs z) ≡ some c
          → (column_of cs z ≡ some c → get_or (put t x) (nat_abs z) no_column ≡ without_nulls
          → get_or (stored (put t x) (taken_of WithNulls m cs)) (nat_abs z) no_column ≡ cond (has_nulls (state_of m c)) c without_nulls)
          → get_or (stored (put t x) (taken_of WithNulls m cs)) (nat_abs z) no_column ≡ cond (has_nulls (state_of m c)) c without_nulls
      at true s f r =
          let same : x.id ≡ z = same_id_eq x.id z s in
          kept cs (put t x) w.1 (ap (λ (k : ℤ). is_some (column_of cs k)) (sym same) ∙ not-true (is_some (column_of cs x.id)) u.0)
          ∙ ap (λ (k : ℤ). get_or (store (has_nulls (state_of m x)) t (nat_abs k) x) (nat_abs z) no_column) same
          ∙ store_own (has_nulls (state_of m x)) t (nat_abs z) x (omega (arith, ap nat_abs same, (valid_plain x.id w.0).1, n)) e
          ∙ ap (λ (o : Option Column). cond (has_nulls (state_of m (or_none o))) (or_none o) without_nulls) f
      at false s f r = r f (store_other (has_nulls (state_of m x)) t (nat_abs x.id) (nat_abs z) x (apart x w.0 s) ∙ e)

no_entry_lem : (n k : ℕ) → k < n → get_or (replicate n without_nulls) k no_column ≡ without_nulls
no_entry_lem zero k h = absurd (not-suc-le-zero h)
no_entry_lem (suc n) zero h = refl
no_entry_lem (suc n) (suc k) h = no_entry_lem n k (le_of_suc-le-suc h)

module _ (a : UnionArray) (m : Buffers) (y : AllAccepted a m) (ids : List ℤ) (o : OwnIds a m ids) (i : ℕ) (h : i < a.count) where
  abbrev c : Column
  c = or_none (child_at a m i)

  child_ok : ColumnAccepted m (or_none (child_at a m i))
  child_ok = child_accepted a m y.array i (y.slot i h)

  -- the id of a slot is its child's
  type_id_ok : T (non_neg (type_id_at a m i)) × (nat_abs (type_id_at a m i) < 128)
  type_id_ok = valid_plain (type_id_at a m i) (ap valid_id (sym (found_id (in_use a) (type_id_at a m i) c (its_child a m y i h))) ∙ child_ok.valid)

  pub id_ok : T (non_neg (id_at ids i)) × (nat_abs (id_at ids i) < 128)
  id_ok = rw (o.own i h) type_id_ok

  entry_is : table_entry (table_of (taken_of WithNulls m (in_use a))) ids i ≡ cond (has_nulls (state_of m c)) c without_nulls
  unfolding table_of
  entry_is =
      entry_of_lem m (id_at ids i) id_ok.0 (in_use a) (replicate 256 without_nulls) c y.array.valid y.array.alone (length-replicate 256 without_nulls)
      (ap (column_of (in_use a)) (o.own i h) ∙ its_child a m y i h) (no_entry_lem 256 (nat_abs (id_at ids i)) (omega (arith, id_ok.1)))

  -- an entry has the slot, and its presence can be read
  entry_fits : (b : Bool) → (slot_at a m i < (cond b c without_nulls).slots) × (presence_in m (cond b c without_nulls) ≡ true)
  entry_fits true = (its_slot a m y i h, presence_accepted m c child_ok)
  entry_fits false = (omega (arith, its_slot a m y i h, child_ok.slots), no_bits m without_nulls refl)

  -- a child without a null says what the no_nulls entry says
  entry_present : (b : Bool) → (b ≡ false → present c m (slot_at a m i) ≡ true) → present (cond b c without_nulls) m (slot_at a m i) ≡ present c m (slot_at a m i)
  entry_present true e = refl
  entry_present false e = sym (no_mask_lem without_nulls m refl (slot_at a m i)) ∙ sym (e refl)

  pub gathered_is : gathered_at (table_of (taken_of WithNulls m (in_use a))) m ids (slot_at a m) i ≡ not (slot_null a m i)
  unfolding gathered_at
  gathered_is =
      ap (λ (x : Column). present x m (slot_at a m i)) entry_is
      ∙ entry_present (has_nulls (state_of m c)) (all-present m c (slot_at a m i) (its_slot a m y i h)) ∙ its_bit a m y i h

within-plain : (z : ℤ) (n : ℕ) → within z n ≡ true → T (non_neg z)
within-plain (pos k) n e = tt
within-plain (negsuc k) n e = absurd (false≢true e)

child-plain : (z : ℤ) (o : Option Column) → within_child z o ≡ true → T (non_neg z)
child-plain z none e = absurd (false≢true e)
child-plain z (some c) e = within-plain z c.slots e

-- what the lookups need
pub gathers : (a : UnionArray) (m : Buffers) → AllAccepted a m → (ids : List ℤ) → OwnIds a m ids → Gathers (table_of (taken_of WithNulls m (in_use a))) m ids a.layout a.offsets_start
gathers a m y ids o = record {
  plain = λ i h. (id_ok a m y ids o i (omega (arith, o.long))).0;
  reach = λ e. (
    omega (arith, y.array.offsets e, o.long),
    λ i h.
        child-plain (offset_at a m i) (child_at a m i)
        (sym (ap (λ (l : Layout). by_layout l true (within_child (offset_at a m i) (child_at a m i))) e) ∙ (y.slot i (omega (arith, o.long))).fits),
  );
  within = λ i h.
      let b : i < a.count = omega (arith, o.long) in
      subst (λ (f : Column). (slot_at a m i < f.slots) × (presence_in m f ≡ true)) (sym (entry_is a m y ids o i b)) (entry_fits a m y ids o i b (has_nulls (state_of m (or_none (child_at a m i)))));
}
