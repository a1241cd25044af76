-- What each route writes is the null mask. Assumes nothing.
use mathlib.Core.Path.{◌≡◌, sym, ap, ap₂, ◌∙◌, subst}
use mathlib.Core.Bool.{Bool, true, false, cond, not}
use mathlib.Core.List.{List, map}
use Prim.Native.Nat.{ℕ, ◌*◌, ◌^◌, ◌≤◌, ◌<◌}
use native.Mathlib.Omega.{arith}
use lib.IntN.{ℤ}
use lib.ListN.{length, get_or, length-take}
use lib.Seq.{get_or-take}
use Rattle.std.specs.Prelude.{Ok}
use Rattle.bitmap.specs.Bits.{words_for, nulls_of, written}
use Rattle.bitmap.proofs.Setting.{written_nulls, written_length}
use Rattle.array_columns.specs.declared.Column.{Column}
use Rattle.array_columns.specs.declared.Layout.TheVariants.{Sparse}
use Rattle.union_array.specs.declared.UnionArray.{UnionArray}
use Rattle.union_array.specs.Types.{no_column}
use Rattle.array_columns.specs.Buffers.{Buffers}
use Rattle.union_array.specs.Slots.{in_use, child_at, slot_at, slot_null}
use Rattle.union_array.specs.Lookup.{or_none}
use Rattle.array_columns.proofs.Columns.{all_found}
use Rattle.array_columns.proofs.Accepted.{ColumnAccepted}
use Rattle.array_columns.proofs.Present.{presence_accepted}
use Rattle.union_array.proofs.Accepted.{AllAccepted, all_accepted, column_at_lem, slots_at}
use Rattle.null_strategy.specs.declared.Route.{Route}
use Rattle.null_strategy.specs.Route.{is_absent, is_all_null, fully_null, fully_nulls}
use Rattle.null_strategy.specs.declared.Fields.{Fields}
use Rattle.null_strategy.specs.Fields.{state_of, in_list}
use Rattle.null_strategy.proofs.FieldStates.{fields_in, many_all, none_present, is_full}
use Rattle.mask_words.specs.declared.Taken.{Taken}
use Rattle.mask_words.specs.declared.Taken.TheVariants.{WithNulls}
use Rattle.mask_words.specs.Steps.{taken_of, columns_at, taken_places, step_at, words_of, ValidIds, TakenNamed, FieldsReady}
use Rattle.mask_words.proofs.TakenUp.{columns_taken, taken_named}
use Rattle.mask_words.proofs.Writing.{words_ext, words_written}
use Rattle.gather_table.specs.Table.{table_of, child_slot, gathered_at, Gathers}
use Rattle.logical_nulls.specs.Mask.{LogicalNulls, numbers_of, masked, with_words, masked_by, answer_on}
use Rattle.logical_nulls.specs.Ready.{Ready}
use Rattle.logical_nulls.proofs.Strategies.{OwnIds, ids_in, own_ids, its_child, its_slot, its_bit, step_is}
use Rattle.logical_nulls.proofs.Entries.{id_ok, gathered_is, gathers}

module _ (a : UnionArray) (fs : Fields) (route : Route) (m : Buffers) (out : List ℕ) (r : Ready a fs route m out) where
  pub accepted : AllAccepted a m
  accepted = all_accepted a m r.accepted

  pub short : a.count < 2 ^ 63
  short = omega (arith, accepted.array.count)

  pub few_fields : fs.count ≤ 128
  few_fields = subst (λ (x : Fields). x.count ≤ 128) (sym r.fields) accepted.array.few

  -- the words are those of the null mask, if each slot's bit is
  as_written : (f : ℕ → Bool) → ((i : ℕ) → i < a.count → f i ≡ not (slot_null a m i)) → words_of a.count f out ≡ written a.count (slot_null a m) out
  as_written f e = words_ext a.count f (λ i. not (slot_null a m i)) out e ∙ words_written a.count (slot_null a m) out

  -- route 2: every child is fully null
  its_full : fully_nulls a m ≡ a.fields → (i : ℕ) → i < a.count → fully_null m (or_none (child_at a m i)) ≡ true
  unfolding fully_nulls
  its_full q i h = all_found (fully_null m) (in_use a) _ (or_none (child_at a m i)) (many_all (fully_null m) a.fields a.columns q) (its_child a m accepted i h)

  pub nulls_alone : is_all_null route ≡ true → words_of a.count (λ i. false) out ≡ written a.count (slot_null a m) out
  nulls_alone e =
      as_written (λ i. false) (λ i h.
      let c = or_none (child_at a m i) in
      sym (none_present m c (slot_at a m i) (its_slot a m accepted i h) (is_full m c ∙ its_full (r.full e) i h)) ∙ its_bit a m accepted i h)

  -- ---- the columns in use, and the type ids of the slots

  module _ (used : length (in_use a) ≡ a.fields) (lent : List ℤ) (el : lent ≡ m.ids) where
    o : OwnIds a m (ids_in a lent)
    o = own_ids a m lent el accepted.array.ids

    pub ids_long : length (ids_in a lent) ≡ a.count
    ids_long = o.long

    long : a.fields ≤ length a.columns
    long = omega (arith, length-take a.fields a.columns)

    states : in_list fs ≡ map (state_of m) (in_use a)
    states = ap in_list r.fields ∙ fields_in m a.fields a.columns long

    -- each is accepted
    column_ok : (q : ℕ) → q < length (in_use a) → ColumnAccepted m (get_or (in_use a) q no_column)
    column_ok q h =
        let b : q < a.fields = omega arith in
        subst (ColumnAccepted m) (sym (get_or-take a.fields a.columns q no_column b)) (column_at_lem a m accepted.array q b (omega (arith, long)))

    valid : ValidIds (in_use a)
    valid q h = (column_ok q h).valid

    pub room : words_for (length (ids_in a lent)) ≤ length out
    room = rw o.long r.lent

    -- a step
    pub fields_ready : a.layout ≡ Sparse → FieldsReady (in_use a) fs m (ids_in a lent)
    fields_ready e = record {
      few = few_fields;
      some = omega (arith, r.some);
      states = states;
      plain = λ i h. (id_ok a m accepted (ids_in a lent) o i (omega (arith, o.long))).0;
      valid = valid;
      held = λ q h.
          let b : q < a.fields = omega arith in (
            presence_accepted m (get_or (in_use a) q no_column) (column_ok q h),
            rw get_or-take (omega (arith, slots_at a m accepted.array e q b (omega (arith, long)), o.long)),
          );
    }

    pub stepped : a.layout ≡ Sparse → (over : Taken) → words_of (length (ids_in a lent)) (step_at over (taken_of over m (in_use a)) m (ids_in a lent)) out ≡ written a.count (slot_null a m) out
    stepped e over =
        ap (λ (n : ℕ). words_of n (step_at over (taken_of over m (in_use a)) m (ids_in a lent)) out) o.long
        ∙ as_written (step_at over (taken_of over m (in_use a)) m (ids_in a lent)) (λ i h. step_is a m accepted (ids_in a lent) o e i h over)

    -- gathering
    module _ (places : List ℕ) (k : places ≡ taken_places WithNulls 0 (in_list fs)) where
      took : places ≡ taken_places WithNulls 0 (map (state_of m) (in_use a))
      took = k ∙ ap (taken_places WithNulls 0) states

      pub named_on : TakenNamed (in_use a) places
      named_on = taken_named WithNulls (in_use a) m places took valid

      module _ (l : List Column) (e : l ≡ table_of (columns_at (in_use a) places)) where
        the_table : l ≡ table_of (taken_of WithNulls m (in_use a))
        the_table = e ∙ ap table_of (columns_taken WithNulls (in_use a) m places took)

        pub gathers_on : Gathers l m (ids_in a lent) a.layout a.offsets_start
        gathers_on = subst (λ (x : List Column). Gathers x m (ids_in a lent) a.layout a.offsets_start) (sym the_table) (gathers a m accepted (ids_in a lent) o)

        pub gathered : words_of (length (ids_in a lent)) (gathered_at l m (ids_in a lent) (child_slot a.layout m.offsets a.offsets_start)) out ≡ written a.count (slot_null a m) out
        gathered =
            ap₂ (λ (n : ℕ) (x : List Column). words_of n (gathered_at x m (ids_in a lent) (slot_at a m)) out) o.long the_table
            ∙ as_written (gathered_at (table_of (taken_of WithNulls m (in_use a))) m (ids_in a lent) (slot_at a m)) (λ i h. gathered_is a m accepted (ids_in a lent) o i h)

  -- ---- the written mask is counted, and answered

  module _ (o : List ℕ) (e : o ≡ written a.count (slot_null a m) out) where
    pub count_in : a.count ≤ 64 * length o
    unfolding words_for
    count_in = omega (arith, ap length e, written_length a.count (slot_null a m) out r.lent, r.lent)

    pub answered : (n : ℕ) (x : LogicalNulls) → is_absent route ≡ false → n ≡ nulls_of o 0 a.count → numbers_of (Ok x) ≡ answer_on route n → with_words (Ok x) o ≡ masked_by a m route out
    unfolding masked_by
    answered n x h q p =
        ap₂ masked (p ∙ ap (answer_on route) (q ∙ ap (λ (w : List ℕ). nulls_of w 0 a.count) e ∙ written_nulls a.count (slot_null a m) out))
        (e ∙ sym (ap (λ (b : Bool). cond b out (written a.count (slot_null a m) out)) h))
