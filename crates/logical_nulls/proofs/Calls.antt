-- The ways out of the exported calls, and what they know before they write. Assumes nothing.
use mathlib.Core.Path.{◌≡◌, refl, sym, ap, ap₂, ◌∙◌}
use mathlib.Core.Bool.{Bool, true, false, cond, not, false≢true}
use mathlib.Core.List.{List}
use Prim.Native.Nat.{ℕ, zero, suc, ◌≤◌, ◌<◌}
use native.Mathlib.Omega.{arith}
use borrow.Author.Tests.{eqb-true, le-leb, lt-leb, leb-true}
use lib.Dec.{eqb, leb}
use lib.ListN.{length, take}
use Rattle.std.specs.Prelude.{Ok, Err, Some, None}
use Rattle.bitmap.specs.Bits.{count, words_for, written}
use Rattle.bitmap.proofs.Tables.{both}
use Rattle.array_columns.specs.declared.Column.{Column}
use Rattle.array_columns.specs.declared.Refusal.{Refusal}
use Rattle.array_columns.specs.declared.Layout.{Layout}
use Rattle.array_columns.specs.declared.Layout.TheVariants.{Sparse, Dense}
use Rattle.union_array.specs.declared.UnionArray.{UnionArray}
use Rattle.union_array.specs.Types.{by_layout}
use Rattle.array_columns.specs.Buffers.{Buffers, amounts_of}
use Rattle.array_columns.specs.Refusal.{no, ◌then◌, if_yes, refusal_number}
use Rattle.union_array.specs.Slots.{in_use, all, slot_null}
use Rattle.union_array.specs.Questions.{checked, column_in, presence_in}
use Rattle.array_columns.proofs.Columns.{all_less}
use Rattle.array_columns.proofs.Present.{presence_in_lem}
use Rattle.union_array.proofs.Accepted.{all_accepted}
use Rattle.null_strategy.specs.Setting.{setting_number, setting_of}
use Rattle.null_strategy.specs.declared.Route.{Route}
use Rattle.null_strategy.specs.declared.Route.TheVariants.{Absent, OneField, AllNull, Gather as routeGather, SkipOne as routeSkipOne, SkipWithoutNulls as routeSkipWithout, SkipFullyNull as routeSkipFully}
use Rattle.null_strategy.specs.Route.{is_absent, is_all_null, present_on, sparse_route, with_nulls, fully_nulls, route_of}
use Rattle.null_strategy.specs.declared.Fields.{Fields}
use Rattle.null_strategy.specs.Fields.{fields_of}
use Rattle.null_strategy.proofs.Choosing.{sparse_is}
use Rattle.null_strategy.proofs.Settings.{not_0}
use Rattle.logical_nulls.specs.Mask.{LogicalNulls, SparseStrategy, Gather, SkipOne, SkipWithoutNulls, SkipFullyNull, Masked, numbers_of, masked, with_words, not_masked, masked_by, answer_on, question13, question14, nulls_checked, strategy_checked, applies, may_run, logical_nulls_of, strategy_route, strategy_of}
use Rattle.logical_nulls.specs.Ready.{Ready}

-- the answer on a route: with the null count where a mask is present, else with none
module _ (route : Route) (nulls : ℕ) where
  pub answer_yes : (b : Bool) → b ≡ present_on route nulls → b ≡ true → numbers_of (Ok (record { null_count = Some nulls; route = route })) ≡ answer_on route nulls
  answer_yes b e t = rw (sym e ∙ t)

  pub answer_no : (b : Bool) → b ≡ present_on route nulls → b ≡ false → numbers_of (Ok (record { null_count = None; route = route })) ≡ answer_on route nulls
  answer_no b e t = rw (sym e ∙ t)

-- ---- three questions in turn, by their numbers, and x if all are answered yes

abbrev in_turn : ℕ → ℕ → ℕ → Masked → List ℕ → Masked
in_turn a b c x out = if_yes (a then b then c) x (not_masked (a then b then c) out)

-- the first no is a refusal's number
first_no : (t n : ℕ) (x : Masked) (out : List ℕ) → (n ≡ 0 → ⊥) → t ≡ n → not_masked n out ≡ if_yes t x (not_masked t out)
first_no t zero x out h e = absurd (h refl)
first_no t (suc n) x out h e = rw e

refused : (a b c n : ℕ) (x : Masked) (out : List ℕ) → (n ≡ 0 → ⊥) → (a then b then c) ≡ n → not_masked n out ≡ in_turn a b c x out
refused a b c n x out h e = first_no (a then b then c) n x out h e

then_first : (a b n : ℕ) → (n ≡ 0 → ⊥) → n ≡ a → (a then b) ≡ n
then_first zero b n h e = absurd (h e)
then_first (suc a) b n h e = sym e

module _ (a : UnionArray) (m : Buffers) (out : List ℕ) where
  pub too_few : (n : ℕ) → n ≡ words_for a.count → length out < n → question13 a (length out) ≡ false
  too_few n e h = lt-leb (words_for a.count) (length out) (omega arith)

  pub enough : (n : ℕ) → n ≡ words_for a.count → n ≤ length out → question13 a (length out) ≡ true
  enough n e h = le-leb (words_for a.count) (length out) (omega arith)

  module _ (cost : ℕ) where
    pub mask_unchecked : (r : Refusal) → refusal_number r ≡ checked a m → with_words (Err r) out ≡ logical_nulls_of a m cost out
    unfolding logical_nulls_of
    mask_unchecked r e =
        first_no (nulls_checked a m cost (length out)) (refusal_number r) (masked_by a m (route_of a m cost) out) out (not_0 r)
        (then_first (checked a m) _ (refusal_number r) (not_0 r) e)

    module _ (e : checked a m ≡ 0) where
      pub mask_12 : (r : Refusal) → setting_number (setting_of cost) ≡ refusal_number r → with_words (Err r) out ≡ logical_nulls_of a m cost out
      unfolding logical_nulls_of
      mask_12 r f =
          refused (checked a m) (setting_number (setting_of cost)) _ (refusal_number r) _ out (not_0 r)
          (rw e (then_first (setting_number (setting_of cost)) _ (refusal_number r) (not_0 r) (sym f)))

      module _ (f : setting_number (setting_of cost) ≡ 0) where
        pub mask_13 : (r : Refusal) → refusal_number r ≡ 13 → question13 a (length out) ≡ false → with_words (Err r) out ≡ logical_nulls_of a m cost out
        unfolding logical_nulls_of
        mask_13 r n g = refused (checked a m) (setting_number (setting_of cost)) _ (refusal_number r) _ out (not_0 r) (rw (e, f, g) (sym n))

        pub mask_taken : question13 a (length out) ≡ true → masked_by a m (route_of a m cost) out ≡ logical_nulls_of a m cost out
        unfolding logical_nulls_of
        mask_taken g = rw (e, f, g)

  module _ (s : SparseStrategy) where
    pub strategy_unchecked : (r : Refusal) → refusal_number r ≡ checked a m → with_words (Err r) out ≡ strategy_of a m s out
    unfolding strategy_of
    strategy_unchecked r e =
        first_no (strategy_checked a m s (length out)) (refusal_number r) (masked_by a m (strategy_route s) out) out (not_0 r)
        (then_first (checked a m) _ (refusal_number r) (not_0 r) e)

    module _ (e : checked a m ≡ 0) where
      pub strategy_14 : (r : Refusal) → refusal_number r ≡ 14 → question14 s a m ≡ false → with_words (Err r) out ≡ strategy_of a m s out
      unfolding strategy_of
      strategy_14 r n g =
          refused (checked a m) (no 14 (question14 s a m)) (no 13 (question13 a (length out))) (refusal_number r) (masked_by a m (strategy_route s) out) out (not_0 r) (rw (e, g) (sym n))

      module _ (f : question14 s a m ≡ true) where
        pub strategy_13 : (r : Refusal) → refusal_number r ≡ 13 → question13 a (length out) ≡ false → with_words (Err r) out ≡ strategy_of a m s out
        unfolding strategy_of
        strategy_13 r n g =
            refused (checked a m) (no 14 (question14 s a m)) (no 13 (question13 a (length out))) (refusal_number r) (masked_by a m (strategy_route s) out) out (not_0 r) (rw (e, f, g) (sym n))

        pub strategy_taken : question13 a (length out) ≡ true → masked_by a m (strategy_route s) out ≡ strategy_of a m s out
        unfolding strategy_of
        strategy_taken g = rw (e, f, g)

-- on route 0 the number of nulls does not matter
absent_answer : (route : Route) (n : ℕ) → is_absent route ≡ true → answer_on route 0 ≡ answer_on route n
absent_answer Absent n e = refl
absent_answer OneField n e = absurd (false≢true e)
absent_answer AllNull n e = absurd (false≢true e)
absent_answer routeGather n e = absurd (false≢true e)
absent_answer routeSkipOne n e = absurd (false≢true e)
absent_answer routeSkipWithout n e = absurd (false≢true e)
absent_answer routeSkipFully n e = absurd (false≢true e)

-- route 0
pub mask_absent : (a : UnionArray) (m : Buffers) (out : List ℕ) (route : Route) (x : LogicalNulls) → is_absent route ≡ true → numbers_of (Ok x) ≡ answer_on route 0
    → with_words (Ok x) out ≡ masked_by a m route out
unfolding masked_by
mask_absent a m out route x e p =
    ap₂ masked (p ∙ absent_answer route (count a.count (slot_null a m)) e) (sym (ap (λ (b : Bool). cond b out (written a.count (slot_null a m) out)) e))

-- ---- what a route rests on

-- only one way leads to route 2
all_null_by : (a b c d : Bool) (l : Layout) (x : Route) → is_all_null x ≡ false
    → is_all_null (cond a (cond b Absent OneField) (cond c Absent (cond d AllNull (by_layout l x routeGather)))) ≡ true → d ≡ true
all_null_by true true c d l x h e = absurd (false≢true e)
all_null_by true false c d l x h e = absurd (false≢true e)
all_null_by false b true d l x h e = absurd (false≢true e)
all_null_by false b false true l x h e = refl
all_null_by false b false false Sparse x h e = absurd (false≢true (sym h ∙ e))
all_null_by false b false false Dense x h e = absurd (false≢true e)

no_columns : (n : ℕ) (cs : List Column) → n ≡ 0 → all (λ c. not c.masked) (take n cs) ≡ true
no_columns zero cs e = refl
no_columns (suc n) cs e = absurd (omega arith)

module _ (a : UnionArray) (m : Buffers) (gather : ℕ) where
  pub route_full : is_all_null (route_of a m gather) ≡ true → fully_nulls a m ≡ a.fields
  unfolding route_of
  route_full e =
      eqb-true (fully_nulls a m) a.fields
      (all_null_by (leb a.fields 1) (all (λ c. not c.masked) (in_use a)) (eqb (with_nulls a m) 0) (eqb (fully_nulls a m) a.fields) a.layout
      (sparse_route gather a.fields (with_nulls a m) (fully_nulls a m))
      (sparse_is (λ x. is_all_null x ≡ false) refl refl refl refl gather a.fields (with_nulls a m) (fully_nulls a m)) e)

  no_route : a.fields ≡ 0 → route_of a m gather ≡ Absent
  unfolding route_of
  no_route e = rw (le-leb a.fields 1 (omega arith), no_columns a.fields a.columns e)

  pub route_some : is_absent (route_of a m gather) ≡ false → 1 ≤ a.fields
  route_some h = by a.fields refl
    where
      by : (n : ℕ) → a.fields ≡ n → 1 ≤ n
      by zero e = absurd (false≢true (sym h ∙ ap is_absent (no_route e)))
      by (suc n) e = omega arith

-- what the states need
pub fields_ok : (a : UnionArray) (m : Buffers) → checked a m ≡ 0 → (a.fields ≤ 128) × (all (presence_in m) (in_use a) ≡ true)
unfolding presence_in
fields_ok a m e =
    let y = (all_accepted a m e).array in
    (y.few, all_less (column_in (amounts_of m)) (presence_in m) (in_use a) (presence_in_lem m) y.parts)

pub counted_ok : (a : UnionArray) (m : Buffers) → checked a m ≡ 0 → a.count ≤ 65536
counted_ok a m e = (all_accepted a m e).array.count

module _ (a : UnionArray) (fs : Fields) (m : Buffers) (out : List ℕ) (c : checked a m ≡ 0) (e : fs ≡ fields_of a m) (n : ℕ) (q : n ≡ words_for a.count) (w : n ≤ length out) where
  -- before the words of the null mask
  pub mask_ready : (gather : ℕ) (route : Route) → route ≡ route_of a m gather → is_absent route ≡ false → Ready a fs route m out × (is_absent route ≡ false)
  mask_ready gather route r h = (
    record {
      accepted = c;
      fields = e;
      lent = omega arith;
      some = route_some a m gather (sym (ap is_absent r) ∙ h);
      full = λ z. route_full a m gather (sym (ap is_all_null r) ∙ z);
    },
    h,
  )

  strategy_kind : (s : SparseStrategy) → (is_all_null (strategy_route s) ≡ false) × (is_absent (strategy_route s) ≡ false)
  strategy_kind Gather = (refl, refl)
  strategy_kind SkipOne = (refl, refl)
  strategy_kind SkipWithoutNulls = (refl, refl)
  strategy_kind SkipFullyNull = (refl, refl)

  -- before the words of a named strategy
  pub strategy_ready : (s : SparseStrategy) (route : Route) → route ≡ strategy_route s → question14 s a m ≡ true → Ready a fs route m out × (is_absent route ≡ false)
  unfolding question14 may_run
  strategy_ready s route r h = (
    record {
      accepted = c;
      fields = e;
      lent = omega arith;
      some = omega (arith, leb-true 2 a.fields (both (leb 2 a.fields) (applies s a.layout a.fields (with_nulls a m)) h).0);
      full = λ z. absurd (false≢true (sym (strategy_kind s).0 ∙ sym (ap is_all_null r) ∙ z));
    },
    ap is_absent r ∙ (strategy_kind s).1,
  )

-- question 14, by the fields
pub may_run_lem : (a : UnionArray) (fs : Fields) (m : Buffers) (s : SparseStrategy) → fs ≡ fields_of a m → may_run s a.layout fs.count fs.some ≡ question14 s a m
unfolding question14
may_run_lem a fs m s e = ap (λ (x : Fields). may_run s a.layout x.count x.some) e

-- SkipOne: for a sparse union where M = N, never for a dense one
pub one_sparse : (l : Layout) (n m : ℕ) (b : Bool) → b ≡ by_layout l true false → b ≡ true → eqb m n ≡ applies SkipOne l n m
one_sparse Sparse n m b e t = refl
one_sparse Dense n m b e t = absurd (false≢true (sym e ∙ t))

pub one_dense : (l : Layout) (n m : ℕ) (b : Bool) → b ≡ by_layout l true false → b ≡ false → false ≡ applies SkipOne l n m
one_dense Sparse n m b e t = absurd (false≢true (sym t ∙ e))
one_dense Dense n m b e t = refl
