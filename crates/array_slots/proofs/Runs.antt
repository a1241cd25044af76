-- A run's slots: which number they answer, and the answer by that number. Assumes nothing.
use Rattle.std.proofs.Common.{◌≡◌, sym, ap, ◌∙◌, Bool, true, false, ℕ, zero, suc, ◌+◌, ◌-◌, ◌<◌, ◌≤◌, leb, List, length, ℤ, arith, add-one}
use Rattle.std.proofs.Math.Option.{none, some}
use native.Mathlib.Nat.{not-suc-le-zero}
use lib.Signed.{mag}
use borrow.Author.Tests.{leb-true}
use Rattle.bitmap.specs.Lists.{retable}
use Rattle.bitmap.specs.Bits.{digit}
use Rattle.bitmap.proofs.Tables.{last_or, both}
use Rattle.array_slots.specs.Types.{Column, Head, by_layout}
use Rattle.array_columns.specs.Buffers.{Buffers}
use Rattle.array_columns.specs.declared.Refusal.{Refusal}
use Rattle.array_columns.specs.Refusal.{refusal_number, no, ◌then◌}
use Rattle.array_slots.proofs.Refused.{refusal_positive}
use Rattle.array_columns.specs.Questions.{within}
use Rattle.array_columns.specs.Numbers.{bad_length}
use Rattle.array_columns.specs.Slots.{column_of}
use Rattle.array_slots.specs.Slots.{used, id_at, offset_at, child_at, named_at, fits_at, slot_no}
use Rattle.array_slots.specs.Values.{first_refusal, values_answer, has_room, slot_value_at, run_no, run_by, run_of}
use Rattle.array_slots.specs.Accepted.{Valued, SlotAccepted, SlotsAccepted}
use Rattle.array_slots.proofs.Parts.{part, part_few, own_id, passed_id, id_is}
use Rattle.array_columns.proofs.Tests.{then_zero, then_left, yes_is, yes_then}

-- ---- the first number

-- slot k is the first that fails
pub first_at : (n : ℕ) (f : ℕ → ℕ) (k : ℕ) → first_refusal k f ≡ 0 → k < n → (f k ≡ 0 → ⊥) → f k ≡ first_refusal n f
first_at zero f k e h w = absurd (not-suc-le-zero h)
first_at (suc n) f k e h w =
    last_or k n h
    (λ (l : k < n). let q = first_at n f k e l w in q ∙ sym (then_left (first_refusal n f) (f n) (λ z. w (q ∙ z))))
    (λ (q : k ≡ n). ap f q ∙ sym (ap (λ (x : ℕ). x then f n) (ap (λ (i : ℕ). first_refusal i f) (sym q) ∙ e)))

-- one slot more
pub first_turn : (f : ℕ → ℕ) (k : ℕ) → first_refusal k f ≡ 0 → f k ≡ 0 → first_refusal (k + 1) f ≡ 0
first_turn f k e h = ap (λ (n : ℕ). first_refusal n f) (add-one k) ∙ ap (λ (x : ℕ). x then f k) e ∙ h

pub first_each : (n : ℕ) (f : ℕ → ℕ) → first_refusal n f ≡ 0 → (k : ℕ) → k < n → f k ≡ 0
first_each zero f e k h = absurd (not-suc-le-zero h)
first_each (suc n) f e k h =
    let y = then_zero (first_refusal n f) (f n) e in
    last_or k n h (λ l. first_each n f y.0 k l) (λ q. ap f q ∙ y.1)

-- ---- 7 and 8 of a slot

module _ (h : Head) (columns : List Column) (ids offsets : List ℤ) (i : ℕ) where
  pub slot_seven : child_at h columns ids i ≡ none → 7 ≡ slot_no h columns ids offsets i
  slot_seven e = rw e

  slot_by : (c : Column) (b : Bool) → child_at h columns ids i ≡ some c → by_layout h.layout true (within (offset_at h offsets i) c.slots) ≡ b
      → no 8 b ≡ slot_no h columns ids offsets i
  slot_by c b e f = rw (e, f)

  pub slot_eight : (c : Column) → child_at h columns ids i ≡ some c → by_layout h.layout true (within (offset_at h offsets i) c.slots) ≡ false
      → 8 ≡ slot_no h columns ids offsets i
  slot_eight c e f = slot_by c false e f

  pub slot_fits : (c : Column) → child_at h columns ids i ≡ some c → by_layout h.layout true (within (offset_at h offsets i) c.slots) ≡ true
      → slot_no h columns ids offsets i ≡ 0
  slot_fits c e f = sym (slot_by c true e f)

  -- a slot that neither refuses
  pub slot_accepted : i < h.count → slot_no h columns ids offsets i ≡ 0 → SlotAccepted h columns ids offsets i
  slot_accepted l e =
      let y = yes_then 6 (named_at h columns ids i) _ e in
      record { low = l; named = y.0; fits = yes_is 7 (fits_at h columns ids offsets i) y.1 }

-- ---- slot k of a run, as the code reads it

module _ (h : Head) (columns : List Column) (ids offsets : List ℤ) (first n k : ℕ) where
  abbrev refusal : ℕ → ℕ
  refusal j = slot_no h columns ids offsets (first + j)

  module _ (low : k < length (part (h.start + first) n ids)) (byte : mag (own_id h ids first n k) < 128) where
    read : passed_id h ids first n k ≡ id_at h ids (first + k)
    read = id_is h ids first n k low byte

    few : k < n
    few = part_few (h.start + first) n k ids low

    module _ (before : first_refusal k refusal ≡ 0) where
      pub run_seven : none ≡ column_of (used h columns) (passed_id h ids first n k) → 7 ≡ first_refusal n refusal
      run_seven e =
          let q : 7 ≡ refusal k = slot_seven h columns ids offsets (first + k) (sym (rw read at e)) in
          q ∙ first_at n refusal k before few (λ z. let w : 7 ≡ 0 = q ∙ z in omega arith)

      module _ (c : Column) (e : some c ≡ column_of (used h columns) (passed_id h ids first n k)) where
        pub run_eight : by_layout h.layout true (within (offset_at h offsets (first + k)) c.slots) ≡ false → 8 ≡ first_refusal n refusal
        run_eight f =
            let q : 8 ≡ refusal k = slot_eight h columns ids offsets (first + k) c (sym (rw read at e)) f in
            q ∙ first_at n refusal k before few (λ z. let w : 8 ≡ 0 = q ∙ z in omega arith)

        pub run_on : by_layout h.layout true (within (offset_at h offsets (first + k)) c.slots) ≡ true → first_refusal (k + 1) refusal ≡ 0
        run_on f = first_turn refusal k before (slot_fits h columns ids offsets (first + k) c (sym (rw read at e)) f)

-- ---- the whole run

pub run_accepted : (h : Head) (columns : List Column) (m : Buffers) (first n : ℕ) → Valued h columns m → first + n ≤ h.count
    → first_refusal n (λ k. slot_no h columns m.ids m.offsets (first + k)) ≡ 0 → SlotsAccepted h columns m first (first + n)
run_accepted h columns m first n v b e = record {
  valued = v;
  slot =
      λ i g l.
      let k : first + (i - first) ≡ i = omega arith in
      slot_accepted h columns m.ids m.offsets i (omega arith)
      (rw k at (first_each n (λ k. slot_no h columns m.ids m.offsets (first + k)) e (i - first) (omega arith)));
}

module _ (h : Head) (columns : List Column) (m : Buffers) (first n : ℕ) (ids : List ℤ) (missing bits : List ℕ) where
  abbrev number : ℕ
  number = run_no h columns m.ids m.offsets first n (has_room n ids missing bits)

  refused : (q : ℕ) → 0 < q → q ≡ number → values_answer q ids missing bits ≡ run_of h columns m first n ids missing bits
  unfolding run_by
  refused zero l e = absurd (omega arith)
  refused (suc q) l e = rw (← e)

  pub number_ten : leb (first + n) h.count ≡ false → 10 ≡ number
  unfolding run_no
  number_ten e = rw e

  pub run_ten : leb (first + n) h.count ≡ false → values_answer 10 ids missing bits ≡ run_of h columns m first n ids missing bits
  run_ten e = refused 10 (omega arith) (number_ten e)

  module _ (e : leb (first + n) h.count ≡ true) where
    pub number_slot : (q : ℕ) → 0 < q → q ≡ first_refusal n (λ k. slot_no h columns m.ids m.offsets (first + k)) → q ≡ number
    unfolding run_no
    number_slot q l f = rw (e, ← f) (sym (then_left q _ (λ z. omega arith)))

    pub run_slot : (r : Refusal) → refusal_number r ≡ first_refusal n (λ k. slot_no h columns m.ids m.offsets (first + k))
        → values_answer (refusal_number r) ids missing bits ≡ run_of h columns m first n ids missing bits
    run_slot r f = refused (refusal_number r) (refusal_positive r) (number_slot (refusal_number r) (refusal_positive r) f)

    module _ (f : 0 ≡ first_refusal n (λ k. slot_no h columns m.ids m.offsets (first + k))) where
      pub number_room : has_room n ids missing bits ≡ false → bad_length ≡ number
      unfolding run_no
      number_room r = rw (e, ← f, r)

      pub run_room : has_room n ids missing bits ≡ false → values_answer bad_length ids missing bits ≡ run_of h columns m first n ids missing bits
      run_room r = refused bad_length (omega arith) (number_room r)

      pub run_written : has_room n ids missing bits ≡ true → (ids' : List ℤ) (missing' bits' : List ℕ)
          → ids' ≡ retable n (λ k. id_at h m.ids (first + k)) ids
          → missing' ≡ retable n (λ k. digit (slot_value_at h columns m (first + k)).missing) missing
          → bits' ≡ retable n (λ k. (slot_value_at h columns m (first + k)).bits) bits
          → values_answer 0 ids' missing' bits' ≡ run_of h columns m first n ids missing bits
      unfolding run_no run_by
      run_written r ids' missing' bits' ei em eb = rw (e, ← f, r, ei, em, eb)

pub room_lengths : (n : ℕ) (ids : List ℤ) (missing bits : List ℕ) → has_room n ids missing bits ≡ true → (n ≤ length ids) × (n ≤ length missing) × (n ≤ length bits)
room_lengths n ids missing bits e =
    let a = both (leb n (length ids)) _ e in
    let b = both (leb n (length missing)) (leb n (length bits)) a.1 in
    (leb-true n (length ids) a.0, leb-true n (length missing) b.0, leb-true n (length bits) b.1)
