-- The null mask marks the slots whose child slot is null, on every route.
use mathlib.Core.Bool.{Bool, cond, false, false≢true, not, true}
use mathlib.Core.List.{List, [], ◌∷◌}
use mathlib.Core.Option.{Option, none, some}
use mathlib.Core.Path.{◌∙◌, ◌≡◌, ap, refl, sym}
use Prim.Native.Nat.{◌<◌, ◌≤◌, ℕ}
use native.Mathlib.Omega.{arith}
use lib.Dec.{eqb, leb}
use lib.IntN.{nat_abs, negsuc, pos, ℤ}
use lib.ListN.{length}
use borrow.Author.Tests.{eqb-true, le-leb, ltb-true, not-false, not-true}
use Rattle.bitmap.specs.Bits.{bit_at, count, digit, words_for, written}
use Rattle.bitmap.proofs.Counts.{count_none, count_zero, not_not}
use Rattle.bitmap.proofs.Setting.{written_bit}
use Rattle.bitmap.proofs.Tables.{every-all}
use Rattle.bitmap.proofs.Words.{count_ext}
use Rattle.array_columns.specs.Buffers.{Buffers}
use Rattle.union_array.specs.Lookup.{column_value}
use Rattle.union_array.specs.Questions.{asked, checked, named_at, offset_fits, question7, question8, slot_checked, within_child}
use Rattle.union_array.specs.Slots.{all, child_at, column_of, in_use, is_some, null_in, nulls_in, offset_at, present, slot_null, type_id_at}
use Rattle.union_array.specs.Types.{by_layout}
use Rattle.array_columns.specs.declared.Column.{Column}
use Rattle.array_columns.specs.declared.Layout.{Layout}
use Rattle.array_columns.specs.declared.Layout.TheVariants.{Dense, Sparse}
use Rattle.union_array.specs.declared.UnionArray.{UnionArray}
use Rattle.array_columns.specs.Lookup.{Value}
use Rattle.null_strategy.specs.Route.{fully_nulls, has_null, how_many, is_absent, route_of, sparse_route, with_nulls}
use Rattle.null_strategy.specs.declared.Route.{Route}
use Rattle.null_strategy.specs.declared.Route.TheVariants.{Absent, OneField, AllNull, Gather as routeGather, SkipOne as routeSkipOne, SkipWithoutNulls as routeSkipWithout, SkipFullyNull as routeSkipFully}
use Rattle.null_strategy.proofs.Choosing.{sparse_is}
use Rattle.null_strategy.specs.Setting.{question12, setting_of}
use Rattle.logical_nulls.specs.Mask.{logical_nulls_of, masked, masked_by, question14, strategy_of, strategy_route}
use Rattle.logical_nulls.specs.declared.SparseStrategy.{SparseStrategy}
use Rattle.logical_nulls.specs.declared.SparseStrategy.TheVariants.{Gather, SkipFullyNull, SkipOne, SkipWithoutNulls}
use Rattle.union_history.specs.Claim.{is_setting, Marks}
use Rattle.union_history.proofs.Lists.{and_both}
use Rattle.union_array.proofs.Accepted.{accepted}
use Rattle.array_columns.proofs.Columns.{all_found}
use Rattle.union_array.proofs.SlicedSlots.{slot_asked_lem, told}

-- ---- a slot that `value` answers: its child is found, its slot is in it, and it is null exactly if the answer is `missing`
pub record Slot (a : UnionArray) (m : Buffers) (i : ℕ) (missing : Bool) : Type 0 where
  pub found : named_at a m i ≡ true
  pub inside : offset_fits a m i ≡ true
  pub is_null : slot_null a m i ≡ missing

told_slot : (l : Layout) (m : Buffers) (c : Option Column) (z : ℤ) (i : ℕ) (v : Value) → told l m c z i ≡ v → v.refusal ≡ 0
    → (is_some c ≡ true) × (by_layout l true (within_child z c) ≡ true) × (null_in c m (by_layout l i (nat_abs z)) ≡ v.missing)
unfolding column_value
told_slot l m none z i v e r = absurd (let q : 7 ≡ 0 = ap (λ (x : Value). x.refusal) e ∙ r in omega arith)
told_slot l m (some c) z i v e r = go (by_layout l true (within_child z (some c))) refl
  where
    go : (t : Bool) → by_layout l true (within_child z (some c)) ≡ t
        → (is_some (some c) ≡ true) × (by_layout l true (within_child z (some c)) ≡ true) × (null_in (some c) m (by_layout l i (nat_abs z)) ≡ v.missing)
    go true q = (refl, q, ap (λ (x : Value). x.missing) (rw q at e))
    go false q = absurd (let w : 8 ≡ 0 = ap (λ (x : Value). x.refusal) (rw q at e) ∙ r in omega arith)

pub slot_of : (a : UnionArray) (m : Buffers) (i : ℕ) (v : Value) → told a.layout m (child_at a m i) (offset_at a m i) i ≡ v → v.refusal ≡ 0 → Slot a m i v.missing
unfolding slot_null
slot_of a m i v e z = let r = told_slot a.layout m (child_at a m i) (offset_at a m i) i v e z in record { found = r.0; inside = r.1; is_null = r.2 }

pub slot_passes : (a : UnionArray) (m : Buffers) (i : ℕ) (missing : Bool) → asked a m ≡ 0 → i < a.count → Slot a m i missing → slot_checked a m i ≡ 0
slot_passes a m i missing g h s = slot_asked_lem a m i g h ∙ rw (s.found, s.inside)

-- ---- counting
digit_zero : (b : Bool) → digit b ≡ 0 → b ≡ false
digit_zero true e = absurd (omega arith)
digit_zero false e = refl

none_has : (p : Column → Bool) (cs : List Column) → how_many p cs ≡ 0 → all (λ c. not (p c)) cs ≡ true
none_has p [] e = refl
none_has p (c ∷ cs) e =
    let f : p c ≡ false = digit_zero (p c) (omega arith) in
    and_both (not (p c)) (all (λ c. not (p c)) cs) (rw f) (none_has p cs (omega arith))

-- ---- no null in any child: no slot is null
within-child : (l : Layout) (cs : List Column) (n i : ℕ) (x z : ℤ) (c : Column) → (l ≡ Sparse → all (λ c. eqb c.slots n) cs ≡ true) → i < n
    → by_layout l true (within_child z (some c)) ≡ true → column_of cs x ≡ some c → by_layout l i (nat_abs z) < c.slots
within-child Sparse cs n i x z c s h w e = let q : c.slots ≡ n = eqb-true c.slots n (all_found (λ c. eqb c.slots n) cs x c (s refl) e) in omega arith
within-child Dense cs n i x (pos k) c s h w e = ltb-true k c.slots w
within-child Dense cs n i x (negsuc k) c s h w e = absurd (false≢true w)

module _ (m : Buffers) (l : Layout) (cs : List Column) (n i : ℕ) (x z : ℤ) (s : l ≡ Sparse → all (λ c. eqb c.slots n) cs ≡ true) (h : i < n)
    (w : by_layout l true (within_child z (column_of cs x)) ≡ true) where
  no_null : (p : Column → Bool) → all p cs ≡ true → ((c : Column) (t : ℕ) → p c ≡ true → t < c.slots → not (present c m t) ≡ false)
      → null_in (column_of cs x) m (by_layout l i (nat_abs z)) ≡ false
  no_null p a f = go (column_of cs x) refl w
    where
      go : (c : Option Column) → column_of cs x ≡ c → by_layout l true (within_child z c) ≡ true → null_in c m (by_layout l i (nat_abs z)) ≡ false
      go none e q = refl
      go (some c) e q = f c (by_layout l i (nat_abs z)) (all_found p cs x c a e) (within-child l cs n i x z c s h q e)

module _ (a : UnionArray) (m : Buffers) (g : asked a m ≡ 0) (missing : ℕ → Bool) (slots : (i : ℕ) → i < a.count → Slot a m i (missing i)) where
  -- whichever way the mask is made
  marks_with : (pr : Bool) (route : ℕ) (out : List ℕ) → (pr ≡ true → (i : ℕ) → i < a.count → bit_at out i ≡ not (slot_null a m i))
      → (pr ≡ false → (i : ℕ) → i < a.count → slot_null a m i ≡ false)
      → Marks a.count missing (masked (record { nulls = cond pr (count a.count (slot_null a m)) 0; refusal = 0; route = route; present = pr }) out)
  marks_with true route out h k = record {
    accepted = refl;
    marked = λ i q. ap not (h refl i q) ∙ not_not (slot_null a m i) ∙ (slots i q).is_null;
    counted = count_ext a.count (slot_null a m) missing (λ i q. (slots i q).is_null);
  }
  marks_with false route out h k = record {
    accepted = refl;
    marked = λ i q. sym (k refl i q) ∙ (slots i q).is_null;
    counted = sym (count_none a.count missing (λ i q. sym (slots i q).is_null ∙ k refl i q));
  }

  -- the mask is there exactly if there is a null
  by_nulls : (route : ℕ) (out : List ℕ) → let nulls = count a.count (slot_null a m) in
      Marks a.count missing (masked (record { nulls = cond (not (eqb nulls 0)) nulls 0; refusal = 0; route = route; present = not (eqb nulls 0) }) (written a.count (slot_null a m) out))
  by_nulls route out =
      let nulls = count a.count (slot_null a m) in
      marks_with (not (eqb nulls 0)) route (written a.count (slot_null a m) out) (λ e i q. written_bit a.count (slot_null a m) out i q)
      (λ e i q. count_zero a.count (slot_null a m) (eqb-true nulls 0 (not-false (eqb nulls 0) e)) i q)

  -- the mask is there
  by_words : (route : ℕ) (out : List ℕ)
      → Marks a.count missing (masked (record { nulls = count a.count (slot_null a m); refusal = 0; route = route; present = true }) (written a.count (slot_null a m) out))
  by_words route out =
      marks_with true route (written a.count (slot_null a m) out) (λ e i q. written_bit a.count (slot_null a m) out i q) (λ e. absurd (false≢true (sym e)))

  marks_on : (route : Route) (out : List ℕ) → (is_absent route ≡ true → (i : ℕ) → i < a.count → slot_null a m i ≡ false) → Marks a.count missing (masked_by a m route out)
  unfolding masked_by
  marks_on Absent out h = marks_with false 0 out (λ e. absurd (false≢true e)) (λ e. h refl)
  marks_on OneField out h = by_words 1 out
  marks_on AllNull out h = by_words 2 out
  marks_on routeGather out h = by_nulls 3 out
  marks_on routeSkipOne out h = by_nulls 4 out
  marks_on routeSkipWithout out h = by_nulls 5 out
  marks_on routeSkipFully out h = by_nulls 6 out

  -- route 0 is taken only where nothing is null
  slot_free : (p : Column → Bool) → all p (in_use a) ≡ true → ((c : Column) (t : ℕ) → p c ≡ true → t < c.slots → not (present c m t) ≡ false)
      → (i : ℕ) → i < a.count → slot_null a m i ≡ false
  unfolding slot_null
  slot_free p e f i q = no_null m a.layout (in_use a) a.count i (type_id_at a m i) (offset_at a m i) (accepted a m g).equal q (slots i q).inside p e f

  unmasked : all (λ c. not c.masked) (in_use a) ≡ true → (i : ℕ) → i < a.count → slot_null a m i ≡ false
  unfolding present
  unmasked e = slot_free (λ c. not c.masked) e (λ c t p w. rw p)

  nothing : with_nulls a m ≡ 0 → (i : ℕ) → i < a.count → slot_null a m i ≡ false
  unfolding with_nulls nulls_in
  nothing e =
      slot_free (λ c. not (has_null m c)) (none_has (has_null m) (in_use a) e)
      (λ c t p w. count_zero c.slots (λ s. not (present c m s)) (eqb-true (nulls_in c m) 0 (not-false (eqb (nulls_in c m) 0) (not-true (not (eqb (nulls_in c m) 0)) p))) t w)

  route_zero : (cost : ℕ) → is_absent (route_of a m cost) ≡ true → (i : ℕ) → i < a.count → slot_null a m i ≡ false
  unfolding route_of
  route_zero cost e =
      go (leb a.fields 1) (all (λ c. not c.masked) (in_use a)) refl (eqb (with_nulls a m) 0) refl (eqb (fully_nulls a m) a.fields) a.layout e
    where
      many : Route
      many = sparse_route cost a.fields (with_nulls a m) (fully_nulls a m)

      go : (t u : Bool) → all (λ c. not c.masked) (in_use a) ≡ u → (w : Bool) → eqb (with_nulls a m) 0 ≡ w → (x : Bool) (l : Layout)
          → is_absent (cond t (cond u Absent OneField) (cond w Absent (cond x AllNull (by_layout l many routeGather)))) ≡ true → (i : ℕ) → i < a.count → slot_null a m i ≡ false
      go true true ue w we x l q = unmasked ue
      go true false ue w we x l q = absurd (false≢true q)
      go false u ue true we x l q = nothing (eqb-true (with_nulls a m) 0 we)
      go false u ue false we true l q = absurd (false≢true q)
      go false u ue false we false Dense q = absurd (false≢true q)
      go false u ue false we false Sparse q = absurd (false≢true (sym (sparse_is (λ r. is_absent r ≡ false) refl refl refl refl cost a.fields (with_nulls a m) (fully_nulls a m)) ∙ q))

  pub passes : checked a m ≡ 0
  unfolding checked question7 question8
  passes =
      rw (
        g,
        every-all a.count (named_at a m) (λ i q. (slots i q).found),
        every-all a.count (offset_fits a m) (λ i q. (slots i q).inside),
      )

  pub mask_marks : (cost : ℕ) (out : List ℕ) → is_setting cost ≡ true → words_for a.count ≤ length out → Marks a.count missing (logical_nulls_of a m cost out)
  unfolding logical_nulls_of setting_of question12
  mask_marks cost out s w = rw (passes, s, le-leb _ _ w) (marks_on (route_of a m cost) out (route_zero cost))

  pub strategy_marks : (s : SparseStrategy) (out : List ℕ) → question14 s a m ≡ true → words_for a.count ≤ length out → Marks a.count missing (strategy_of a m s out)
  unfolding strategy_of
  strategy_marks s out q w = rw (passes, q, le-leb _ _ w) (marks_on (strategy_route s) out (λ e. absurd (never s e)))
    where
      never : (s : SparseStrategy) → is_absent (strategy_route s) ≡ true → ⊥
      never Gather e = false≢true e
      never SkipOne e = false≢true e
      never SkipWithoutNulls e = false≢true e
      never SkipFullyNull e = false≢true e
