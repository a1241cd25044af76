-- An array of the log's, over memory that holds the log, tells its entries.
use mathlib.Core.Bool.{Bool, ◌||◌, cond, false, not, true}
use mathlib.Core.List.{List, [], ◌++◌, ◌∷◌}
use mathlib.Core.Option.{Option, none, some}
use mathlib.Core.Path.{◌∙◌, ◌≡◌, ap, refl, subst, sym}
use Prim.Native.Nat.{◌*◌, ◌+◌, ◌-◌, ◌<◌, ◌≤◌, suc, zero, ℕ}
use native.Mathlib.Nat.{le_of_suc-le-suc, mul-le-mul_right, not-suc-le-zero, zero-add}
use native.Mathlib.Omega.{arith}
use lib.Dec.{eqb, leb}
use lib.IntN.{nat_abs, pos, ℤ}
use lib.ListN.{get_or, length, length-map, replicate}
use lib.Seq.{take_at, take-take}
use borrow.Author.Tests.{le-leb, lt-ltb}
use Rattle.bitmap.specs.Bits.{bit_at, words_for}
use Rattle.array_columns.specs.Buffers.{Buffers, amounts_of}
use Rattle.union_array.specs.Lookup.{child_of, column_value, padded, type_id_of, value_of, value_offset_of}
use Rattle.union_array.specs.Questions.{asked, column_in, part_in, question1, question3, question4, question5, question6, slot_checked, valid_id}
use Rattle.array_columns.specs.Refusal.{if_yes}
use Rattle.union_array.specs.Slots.{all, child_at, column_of, in_use, is_some, offset_at, present, slot_at, type_id_at}
use Rattle.union_array.specs.Types.{by_layout, no_column}
use Rattle.array_columns.specs.declared.Column.{Column}
use Rattle.array_columns.specs.declared.Layout.{Layout}
use Rattle.array_columns.specs.declared.Layout.TheVariants.{Dense, Sparse}
use Rattle.union_array.specs.declared.UnionArray.{UnionArray}
use Rattle.array_columns.specs.Lookup.{Value}
use Rattle.logical_nulls.specs.Mask.{logical_nulls_of, strategy_of}
use Rattle.union_builder.specs.Append.{is_none, or_else}
use Rattle.batch_description.specs.Description.{Named, assembled, ordered}
use Rattle.union_history.specs.Claim.{ChainAccepted, Marks, SameColumn, Shows, SliceCall, chain, entry_missing, entry_slot, entry_value, last_count, log_array, log_column, mask_of, name_told, slot_sum, slots_of, sum_of}
use Rattle.union_history.specs.Listing.{InOrder}
use Rattle.union_history.specs.Log.{Entry, Log, LogColumn, column_at, no_entry}
use Rattle.union_history.proofs.Lists.{and_both}
use Rattle.union_history.proofs.Stores.{mask_room}
use Rattle.union_history.proofs.Counts.{count_of_before, count_of_rise, eqb_same}
use Rattle.union_history.proofs.Batch.{Batch, Counted, Held, Holds, own_slot}
use Rattle.union_history.proofs.Step.{Enough, slots_of_le}
use Rattle.union_history.proofs.Order.{columns_of, ordered-all, ordered-column, ordered-distinct, ordered_length}
use Rattle.union_array.proofs.Accepted.{Yes, all_yes}
use Rattle.union_array.proofs.SlicedSlots.{told, value_told}
use Rattle.union_history.proofs.Slices.{chain-asked, chain-count, chain_in_order, chain_layout, chain_offsets, chain-start, chain_value, slice_accepted}
use Rattle.union_history.proofs.Sorted.{assembled_in_order}
use Rattle.union_history.proofs.Sums.{slots_sum}
use Rattle.union_history.proofs.Nulls.{Slot, mask_marks, passes, slot_of, slot_passes, strategy_marks}

-- ---- missing or not
or_true : (a : Bool) → (a || true) ≡ true
or_true true = refl
or_true false = refl

null_there : (l : Layout) (es : List Entry) (i : ℕ) → i < length es → (get_or es i no_entry).value ≡ none → mask_of l (get_or es i no_entry).id es ≡ true
null_there l [] i h e = absurd (not-suc-le-zero h)
null_there Sparse (x ∷ es) zero h e = rw (eqb_same x.id, e)
null_there Dense (x ∷ es) zero h e = rw (eqb_same x.id, e)
null_there l (x ∷ es) (suc i) h e = rw (null_there l es i (le_of_suc-le-suc h) e, or_true)

present_is : (v : Option ℕ) (a b : Bool) → b ≡ is_some v → (v ≡ none → a ≡ true) → (not a || b) ≡ is_some v
present_is none a b e h = rw (e, h refl)
present_is (some x) true b e h = rw e
present_is (some x) false b e h = refl

missing_is : (v : Option ℕ) → not (is_some v) ≡ is_none v
missing_is none = refl
missing_is (some x) = refl

bits_are : (v : Option ℕ) → cond (is_some v) (or_else v 0) 0 ≡ or_else v 0
bits_are none = refl
bits_are (some x) = refl

value_eq : (a b : Value) → a.bits ≡ b.bits → a.name ≡ b.name → a.size ≡ b.size → a.refusal ≡ b.refusal → a.id ≡ b.id → a.kind ≡ b.kind → a.missing ≡ b.missing → a ≡ b
value_eq a b p q r s t u w = λ i. record { bits = p i; name = q i; size = r i; refusal = s i; id = t i; kind = u i; missing = w i }

-- ---- slots
own_lt : (l : Layout) (es : List Entry) (i : ℕ) → i < length es → own_slot l es i < slots_of l (get_or es i no_entry).id es
own_lt Sparse es i h = h
own_lt Dense es i h = count_of_before i es h

own_sparse : (l : Layout) (es : List Entry) (i : ℕ) → l ≡ Sparse → i ≡ own_slot l es i
own_sparse Sparse es i e = refl
own_sparse Dense es i e = absurd (let z : ◌≡◌ {A = ℕ} 0 1 = cc in omega arith)

told_at : (l : Layout) (m : Buffers) (c : Column) (z : ℤ) (i s : ℕ) → (l ≡ Dense → z ≡ pos s) → (l ≡ Sparse → i ≡ s) → s < c.slots → told l m (some c) z i ≡ column_value c m s
told_at Sparse m c z i s d e h = ap (column_value c m) (e refl)
told_at Dense m c z i s d e h = rw (d refl, lt-ltb s c.slots h)

offsets_match : (l : Layout) (n : ℕ) → by_layout l true (eqb (by_layout l 0 n) n) ≡ true
offsets_match Sparse n = refl
offsets_match Dense n = eqb_same n

offsets_in : (l : Layout) (n lent : ℕ) → n ≤ lent → by_layout l true (part_in 0 (by_layout l 0 n) lent) ≡ true
offsets_in Sparse n lent h = refl
offsets_in Dense n lent h = rw (zero-add n) (le-leb _ _ h)

mask_fits : (b : Bool) (n lent : ℕ) → n ≤ lent → (not b || leb n lent) ≡ true
mask_fits false n lent h = refl
mask_fits true n lent h = le-leb _ _ h

slots_in : (l : Layout) (es : List Entry) (n : ℕ) (f : ℕ → Named) → ((k : ℕ) → (f k).column.slots ≡ slots_of l k es)
    → by_layout l (all (λ c. eqb c.slots (length es)) (columns_of (ordered n f))) true ≡ true
slots_in Dense es n f h = refl
slots_in Sparse es n f h = ordered-all (λ c. eqb c.slots (length es)) n f (λ k q. rw (h k) (eqb_same (length es)))

-- the slot in its column, from the array and from a slice of it
at_slot : (l : Layout) (o i : ℕ) (os : List ℤ) (es : List Entry) → (l ≡ Dense → get_or os (o + i) (pos 0) ≡ pos (own_slot l es (o + i)))
    → by_layout l i (nat_abs (get_or os (by_layout l 0 (0 + o) + i) (pos 0))) ≡ entry_slot l es o i
at_slot Sparse o i os es e = refl
at_slot Dense o i os es e = rw (zero-add o, e refl)

slot_rise : (l : Layout) (es : List Entry) (o i j : ℕ) → i < j → o + j < length es → (get_or es (o + i) no_entry).id ≡ (get_or es (o + j) no_entry).id
    → entry_slot l es o i < entry_slot l es o j
slot_rise Sparse es o i j h q e = h
slot_rise Dense es o i j h q e =
    let w : o + i < o + j = omega arith in
    rw e (count_of_rise (get_or es (o + j) no_entry).id (o + i) (o + j) es w q e)

module _ (t : Batch) (m : Buffers) (inv : Counted t) (hold : Holds t m) (lent : Enough t m) where
  abbrev l : Layout
  l = t.layout

  abbrev bk : Log
  bk = t.log

  abbrev cols : List LogColumn
  cols = t.log.columns

  abbrev es : List Entry
  es = t.log.entries

  abbrev C : ℕ
  C = t.log.capacity

  abbrev row : ℕ → Named
  row k = record { name = (column_at cols k).name; column = log_column l bk k }

  abbrev ch : List Column
  ch = columns_of (ordered (length cols) row)

  own : (j : ℕ) → (row j).column.id ≡ pos j
  own j = refl

  parts : (k : ℕ) → k < length cols → column_in (amounts_of m) (log_column l bk k) ≡ true
  unfolding column_in
  parts k h =
      let n : ℕ = length (column_at cols k).name in
      let s : ℕ = slots_of l k es in
      let n32 : n ≤ 32 = inv.name_fits k h in
      let kk : k < bk.limit = omega (arith, inv.count_fits) in
      let sc : s ≤ C = omega (arith, slots_of_le l k es, inv.len_fits) in
      let w₁ : 32 * k + n ≤ length m.names = omega (arith, lent.names) in
      let w₃ : k * C + s ≤ length m.values = omega (arith, mul-le-mul_right C kk, lent.values) in
      let w₄ : 64 * (k * words_for C) + 0 + s ≤ 64 * length m.masks = omega (arith, mul-le-mul_right (64 * words_for C) kk, mask_room C, lent.masks) in
      and_both (leb n 32) _ (le-leb _ _ n32)
      (and_both (leb (32 * k + n) (length m.names)) _ (le-leb _ _ w₁)
      (and_both (leb (k * C + s) (length m.values)) _ (le-leb _ _ w₃) (mask_fits (mask_of l k es) (64 * (k * words_for C) + 0 + s) (64 * length m.masks) w₄)))

  in_use_lem : in_use (log_array l bk) ≡ ch
  unfolding log_array assembled
  in_use_lem = take_at ch (replicate (128 - length cols) no_column) (length cols) (length-map (ordered (length cols) row) (λ c. c.column) ∙ ordered_length (length cols) row)

  yes_all : Yes (log_array l bk) m
  unfolding log_array assembled question1 question3 question4 question5 question6
  yes_all =
      let n : ℕ = length es in
      let w : length cols ≤ 128 = (omega (arith, inv.count_fits, inv.limits.most_room)) in
      let w₁ : 0 + n ≤ length m.ids = omega (arith, inv.len_fits, lent.ids) in
      let w₂ : n ≤ length m.offsets = omega (arith, inv.len_fits, lent.offsets) in
      let w₄ : n ≤ 65536 = omega (arith, inv.len_fits, inv.limits.most_slots) in
      record {
        q1 = rw in_use_lem (and_both (leb (length cols) 128) _ (le-leb _ _ w)
            (and_both (all (λ c. valid_id c.id) ch) _
            (ordered-all (λ c. valid_id c.id) (length cols) row (λ k h. let q : k < 128 = omega (arith, inv.count_fits, inv.limits.most_room) in lt-ltb _ _ q))
            (ordered-distinct row own (length cols))));
        q2 = eqb_same (length cols);
        q3 = rw in_use_lem (and_both (part_in 0 n (length m.ids)) _ (le-leb _ _ w₁)
            (and_both (by_layout l true (part_in 0 (by_layout l 0 n) (length m.offsets))) _ (offsets_in l n (length m.offsets) w₂)
            (ordered-all (column_in (amounts_of m)) (length cols) row parts)));
        q4 = rw in_use_lem (and_both (leb n 65536) _ (le-leb _ _ w₄)
            (ordered-all (λ c. leb c.slots 65536) (length cols) row (λ k h. let q : slots_of l k es ≤ 65536 = omega (arith, slots_of_le l k es) in le-leb _ _ q)));
        q5 = offsets_match l n;
        q6 = rw in_use_lem (slots_in l es (length cols) row (λ k. refl));
      }

  good : asked (log_array l bk) m ≡ 0
  good = all_yes (log_array l bk) m yes_all

  column_entry : (i : ℕ) → i < length es → column_value (log_column l bk (get_or es i no_entry).id) m (own_slot l es i) ≡ entry_value (get_or es i no_entry)
  unfolding column_value present
  column_entry i h =
      let e : Entry = get_or es i no_entry in
      let s : ℕ = own_slot l es i in
      let q : Held t m i e s = hold.held i h in
      let nm : (column_at cols e.id).name ≡ e.name = q.is_name in
      let kd : (column_at cols e.id).kind ≡ e.kind = q.is_kind in
      let at : 64 * (e.id * words_for C) + 0 + s ≡ e.id * (64 * words_for C) + s = omega arith in
      let pr : (not (mask_of l e.id es) || bit_at m.masks (64 * (e.id * words_for C) + 0 + s)) ≡ is_some e.value
      = present_is e.value (mask_of l e.id es) (bit_at m.masks (64 * (e.id * words_for C) + 0 + s)) (ap (bit_at m.masks) at ∙ q.bit) (null_there l es i h) in
      value_eq (column_value (log_column l bk e.id) m s) (entry_value e)
      (rw (pr, q.word, kd, q.low) (bits_are e.value))
      (ap padded (hold.name e.id q.known ∙ nm)) (ap length nm) refl refl kd (ap not pr ∙ missing_is e.value)

  read : (i : ℕ) → i < length es → value_of (log_array l bk) m i ≡ entry_value (get_or es i no_entry)
  unfolding log_array assembled
  read i h =
      let e : Entry = get_or es i no_entry in
      let q : Held t m i e (own_slot l es i) = hold.held i h in
      let c : child_at (log_array l bk) m i ≡ some (log_column l bk e.id)
      = ap (λ (x : List Column). column_of x (get_or m.ids (0 + i) (pos 0))) in_use_lem ∙ ap (λ (x : ℕ). column_of ch (get_or m.ids x (pos 0))) (zero-add i)
      ∙ ap (λ (z : ℤ). column_of ch z) q.is_id ∙ ordered-column row own (length cols) e.id q.known in
      value_told (log_array l bk) m i good h
      ∙ ap (λ (x : Option Column). told l m x (offset_at (log_array l bk) m i) i) c
      ∙ ap (λ (x : ℕ). told l m (some (log_column l bk e.id)) (get_or m.offsets x (pos 0)) i) (zero-add i)
      ∙ told_at l m (log_column l bk e.id) (get_or m.offsets i (pos 0)) i (own_slot l es i) q.is_off (own_sparse l es i) (own_lt l es i h)
      ∙ column_entry i h

  log_count : (log_array l bk).count ≡ length es
  unfolding log_array assembled
  log_count = refl

  log_layout : (log_array l bk).layout ≡ l
  unfolding log_array assembled
  log_layout = refl

  log_offsets : (log_array l bk).offsets_start ≡ 0
  unfolding log_array assembled
  log_offsets = refl

  log_start : (log_array l bk).start ≡ 0
  unfolding log_array assembled
  log_start = refl

  in_order : InOrder (log_array l bk) m
  unfolding log_array
  in_order = assembled_in_order l (length es) (length cols) row m own (λ j h. hold.name j h)

  -- ---- of two entries
  told_name : (i : ℕ) → i < length es → name_told (entry_value (get_or es i no_entry)) ≡ (get_or es i no_entry).name
  unfolding padded
  told_name i h =
      let e : Entry = get_or es i no_entry in
      let q : Held t m i e (own_slot l es i) = hold.held i h in
      let f : length e.name ≤ 32 = subst (λ (x : List ℕ). length x ≤ 32) q.is_name (inv.name_fits e.id q.known) in
      take-take (length e.name) 32 (e.name ++ replicate 32 0) f ∙ take_at e.name (replicate 32 0) (length e.name) refl

  same_column : (i j : ℕ) → i < length es → j < length es → SameColumn (entry_value (get_or es i no_entry)) (entry_value (get_or es j no_entry))
  same_column i j h g =
      let p : Held t m i (get_or es i no_entry) (own_slot l es i) = hold.held i h in
      let q : Held t m j (get_or es j no_entry) (own_slot l es j) = hold.held j g in
      let same : pos (get_or es i no_entry).id ≡ pos (get_or es j no_entry).id → column_at cols (get_or es i no_entry).id ≡ column_at cols (get_or es j no_entry).id
      = λ e. ap (λ (k : ℕ). column_at cols k) (cc) in
      record {
        by_id = λ e. told_name i h ∙ sym p.is_name ∙ ap (λ (c : LogColumn). c.name) (same e) ∙ q.is_name ∙ sym (told_name j g);
        by_name = λ e. ap pos (inv.apart (get_or es i no_entry).id (get_or es j no_entry).id p.known q.known
            (p.is_name ∙ sym (told_name i h) ∙ e ∙ told_name j g ∙ sym q.is_name));
        kind = λ e. sym p.is_kind ∙ ap (λ (c : LogColumn). c.kind) (same e) ∙ q.is_kind;
      }

  -- ---- the columns
  pub tells_fields : (log_array l bk).fields ≡ length cols
  unfolding log_array assembled
  tells_fields = refl

  pub tells_child : (k : ℕ) → k < length cols → child_of (log_array l bk) m (pos k) ≡ record { column = log_column l bk k; refusal = 0 }
  unfolding child_of
  tells_child k h =
      let c : column_of (in_use (log_array l bk)) (pos k) ≡ some (log_column l bk k) = ap (λ (x : List Column). column_of x (pos k)) in_use_lem ∙ ordered-column row own (length cols) k h in
      rw (good, c)

  pub tells_sum : l ≡ Dense → slot_sum (in_use (log_array l bk)) ≡ length es
  tells_sum d = ap slot_sum in_use_lem ∙ slots_sum (length cols) row es (λ k. ap (λ (x : Layout). slots_of x k es) d) inv.ids

  -- a chain of slices of it
  module _ (ps : List SliceCall) (k : ChainAccepted (log_array l bk) ps) where
    abbrev part : UnionArray
    part = chain (log_array l bk) ps

    abbrev n : ℕ
    n = last_count (length es) ps

    part_count : part.count ≡ n
    part_count = chain-count (log_array l bk) ps k ∙ ap (λ (x : ℕ). last_count x ps) log_count

    part_good : asked part m ≡ 0
    part_good = chain-asked (log_array l bk) m ps good k

    part_in_lem : (i : ℕ) → i < part.count → sum_of ps + i < length es
    part_in_lem i h = rw log_count at (chain_value (log_array l bk) m ps i good k h).0

    part_value : (i : ℕ) → i < part.count → value_of part m i ≡ entry_value (get_or es (sum_of ps + i) no_entry)
    part_value i h = (chain_value (log_array l bk) m ps i good k h).1 ∙ read (sum_of ps + i) (part_in_lem i h)

    part_slot : (i : ℕ) → i < part.count → Slot part m i (entry_missing es (sum_of ps) i)
    part_slot i h =
        slot_of part m i (entry_value (get_or es (sum_of ps + i) no_entry)) (sym (value_told part m i part_good h) ∙ part_value i h) refl

    part_passes : (i : ℕ) → i < part.count → slot_checked part m i ≡ 0
    part_passes i h = slot_passes part m i (entry_missing es (sum_of ps) i) part_good h (part_slot i h)

    part_type : (i : ℕ) → i < part.count → type_id_of part m i ≡ record { refusal = 0; id = pos (get_or es (sum_of ps + i) no_entry).id }
    unfolding type_id_of
    part_type i h =
        ap (λ (n : ℕ). record { refusal = n; id = if_yes n (type_id_at part m i) (pos 0) }) (part_passes i h)
        ∙ ap (λ (x : ℕ). record { refusal = 0; id = get_or m.ids (x + i) (pos 0) }) (chain-start (log_array l bk) ps k ∙ ap (λ (x : ℕ). x + sum_of ps) log_start ∙ zero-add (sum_of ps))
        ∙ ap (λ (z : ℤ). record { refusal = 0; id = z }) (hold.held (sum_of ps + i) (part_in_lem i h)).is_id

    part_own : (i : ℕ) → i < part.count → slot_at part m i ≡ entry_slot l es (sum_of ps) i
    part_own i h =
        ap (λ (x : Layout). by_layout x i (nat_abs (offset_at part m i))) (chain_layout (log_array l bk) ps k ∙ log_layout)
        ∙ ap (λ (x : ℕ). by_layout l i (nat_abs (get_or m.offsets (x + i) (pos 0))))
        (chain_offsets (log_array l bk) ps k
        ∙ ap (λ (x : Layout). by_layout x (log_array l bk).offsets_start ((log_array l bk).offsets_start + sum_of ps)) log_layout
        ∙ ap (λ (x : ℕ). by_layout l x (x + sum_of ps)) log_offsets)
        ∙ at_slot l (sum_of ps) i m.offsets es (hold.held (sum_of ps + i) (part_in_lem i h)).is_off

    part_offset : (i : ℕ) → i < part.count → value_offset_of part m i ≡ record { offset = entry_slot l es (sum_of ps) i; refusal = 0 }
    unfolding value_offset_of
    part_offset i h =
        ap (λ (n : ℕ). record { offset = if_yes n (slot_at part m i) 0; refusal = n }) (part_passes i h)
        ∙ ap (λ (s : ℕ). record { offset = s; refusal = 0 }) (part_own i h)

    pub shows : Shows l m part es (sum_of ps) n
    shows = record {
      count = part_count;
      passes = passes part m part_good (entry_missing es (sum_of ps)) part_slot;
      slices = λ from n' h. slice_accepted part m from n' part_good (rw part_count h);
      values = λ i h. part_value i (rw part_count h);
      type_ids = λ i h. part_type i (rw part_count h);
      offsets = λ i h. part_offset i (rw part_count h);
      names = λ i j h q.
          let u : i < part.count = rw part_count h in
          let w : j < part.count = rw part_count q in
          rw (part_value i u, part_value j w) (same_column (sum_of ps + i) (sum_of ps + j) (part_in_lem i u) (part_in_lem j w));
      order = chain_in_order (log_array l bk) m ps k in_order;
      rising = λ i j h q e. slot_rise l es (sum_of ps) i j h (part_in_lem j (rw part_count q)) e;
      nulls = λ cost out s w.
          subst (λ (c : ℕ). Marks c (entry_missing es (sum_of ps)) (logical_nulls_of part m cost out)) part_count
          (mask_marks part m part_good (entry_missing es (sum_of ps)) part_slot cost out s (rw part_count w));
      named = λ s out a w.
          subst (λ (c : ℕ). Marks c (entry_missing es (sum_of ps)) (strategy_of part m s out)) part_count
          (strategy_marks part m part_good (entry_missing es (sum_of ps)) part_slot s out a (rw part_count w));
    }
