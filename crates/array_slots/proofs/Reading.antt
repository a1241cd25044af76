-- What reading an accepted slot goes by: its child, and its slot in it. Assumes nothing.
use Rattle.std.proofs.Common.{◌≡◌, refl, sym, ap, ◌∙◌, Bool, true, false, not, ℕ, ◌+◌, ◌<◌, ◌≤◌, arith, T, eqb, List, ◌++◌, length, get_or, drop, ℤ, pos, negsuc, nat_abs, Some, None}
use Rattle.std.proofs.Math.Option.{some}
use Rattle.std.specs.declared.option.Option as given
use Rattle.std.specs.Option.{is_some, unwrap_or}
use mir.Val.{bool_byte}
use Rattle.bitmap.specs.Lists.{retable}
use Rattle.bitmap.specs.Bits.{digit}
use Rattle.bitmap.proofs.Tables.{table_ext}
use mathlib.Core.Bool.{false≢true}
use lib.Signed.{non_neg, mag}
use borrow.Author.Tests.{leb-true, eqb-true}
use Rattle.array_slots.specs.Types.{Layout, Sparse, Dense, Column, Head, by_layout}
use Rattle.array_columns.specs.Buffers.{Buffers}
use Rattle.array_columns.specs.Pass.{column_told}
use Rattle.array_columns.specs.Slots.{column_of}
use Rattle.array_columns.specs.Slots as slots
use Rattle.array_columns.specs.Questions.{part_in, presence_in, within}
use Rattle.array_columns.specs.Lookup.{or_none, SlotValue, slot_told}
use Rattle.array_columns.specs.Accepted.{InChild, slot_value_of}
use Rattle.array_slots.specs.Slots.{used, id_at, offset_at, child_at, slot_at, within_at}
use Rattle.array_slots.specs.Values.{slot_value_at}
use Rattle.array_slots.specs.Accepted.{Valued, SlotAccepted, SlotsAccepted}
use Rattle.array_columns.proofs.Accepted.{some_is, within_abs}
use Rattle.array_columns.proofs.Columns.{all_found}
use Rattle.array_slots.proofs.Parts.{part, part_few, part_table, own_id, passed_id, id_is}

pub within_sign : (z : ℤ) (n : ℕ) → within z n ≡ true → T (non_neg z)
within_sign (pos k) n e = tt
within_sign (negsuc k) n e = absurd (false≢true e)

-- ---- 7 and 8

module _ (h : Head) (columns : List Column) (ids offsets : List ℤ) (i : ℕ) (s : SlotAccepted h columns ids offsets i) where
  abbrev child : Column
  child = or_none (child_at h columns ids i)

  pub child_is : child_at h columns ids i ≡ some child
  child_is = some_is (child_at h columns ids i) s.named

  -- the code's answer is that child
  pub child_read : (o : given.Option Column) → column_told o ≡ child_at h columns ids i → o ≡ Some child
  child_read None e = absurd (false≢true (ap slots.is_some e ∙ s.named))
  child_read (Some c) e = ap Some (ap or_none e)

  -- a dense slot's offset is one of its child's slots
  dense_within : h.layout ≡ Dense → within_at h columns ids offsets i ≡ true
  dense_within d = sym (ap (λ (l : Layout). by_layout l true (within_at h columns ids offsets i)) d) ∙ s.fits

  -- so it is not below 0
  offset_sign : h.layout ≡ Dense → T (non_neg (offset_at h offsets i))
  offset_sign d = within_sign (offset_at h offsets i) child.slots (rw child_is at (dense_within d))

  -- the slot is one of its child's, if those of a sparse child are as many as the array's
  pub slot_in : (h.layout ≡ Sparse → child.slots ≡ h.count) → slot_at h offsets i < child.slots
  slot_in equal = by h.layout refl
    where
      by : (l : Layout) → h.layout ≡ l → slot_at h offsets i < child.slots
      by Sparse e =
          let q = equal e in
          let b = s.low in
          rw (ap (λ (l : Layout). by_layout l i (nat_abs (offset_at h offsets i))) e) (omega arith)
      by Dense e =
          rw (ap (λ (l : Layout). by_layout l i (nat_abs (offset_at h offsets i))) e)
          (within_abs (offset_at h offsets i) child.slots (rw child_is at (dense_within e)))

-- ---- an accepted slot

module _ (h : Head) (columns : List Column) (m : Buffers) (i : ℕ) (y : Valued h columns m) (s : SlotAccepted h columns m.ids m.offsets i) where
  -- what `child_slot` asks
  pub slot_lent : h.layout ≡ Dense → (h.offsets_start + i < length m.offsets) × T (non_neg (offset_at h m.offsets i))
  slot_lent d = (omega (arith, y.readable.offsets_in d, s.low), offset_sign h columns m.ids m.offsets i s d)

  -- what `slot_value` asks
  pub in_child : InChild (or_none (child_at h columns m.ids i)) m (slot_at h m.offsets i)
  in_child =
      let c : Column = or_none (child_at h columns m.ids i) in
      let f : child_at h columns m.ids i ≡ some c = child_is h columns m.ids m.offsets i s in
      record {
        low = slot_in h columns m.ids m.offsets i s (λ e. eqb-true c.slots h.count (all_found (λ d. eqb d.slots h.count) (used h columns) _ c (y.equal e) f));
        values = leb-true (c.values + c.slots) (length m.values) (all_found (λ d. part_in d.values d.slots (length m.values)) (used h columns) _ c y.values f);
        presence = all_found (presence_in m) (used h columns) _ c y.presence f;
      }

-- ---- the type ids of a run

pub ids_told : (h : Head) (columns : List Column) (m : Buffers) (first n : ℕ) → SlotsAccepted h columns m first (first + n) → first + n ≤ h.count → (old : List ℤ)
    → part (h.start + first) n m.ids ++ drop n old ≡ retable n (λ k. id_at h m.ids (first + k)) old
unfolding retable
ids_told h columns m first n a low old =
    let y = a.valued.readable.ids_in in
    let e : (k : ℕ) → h.start + first + k ≡ h.start + (first + k) = λ k. omega arith in
    ap (λ (l : List ℤ). l ++ drop n old)
    (part_table (h.start + first) n m.ids (omega arith) ∙ table_ext n _ (λ k. id_at h m.ids (first + k)) (λ k l. ap (λ (i : ℕ). get_or m.ids i (pos 0)) (e k)))

-- ---- slot k of a run, as the code reads it

missing_is : (v : given.Option ℕ) (b : Bool) → is_some v ≡ not b → bool_byte b ≡ digit (slot_told v).missing
missing_is None true e = refl
missing_is None false e = absurd (false≢true e)
missing_is (Some x) true e = absurd (false≢true (sym e))
missing_is (Some x) false e = refl

bits_is : (v : given.Option ℕ) → unwrap_or v 0 ≡ (slot_told v).bits
bits_is None = refl
bits_is (Some x) = refl

module _ (h : Head) (columns : List Column) (m : Buffers) (first n k : ℕ) (a : SlotsAccepted h columns m first (first + n))
    (low : k < length (part (h.start + first) n m.ids)) where
  slot : SlotAccepted h columns m.ids m.offsets (first + k)
  slot = let l = part_few (h.start + first) n k m.ids low in a.slot (first + k) (omega arith) (omega arith)

  pub offset_lent : h.layout ≡ Dense → (h.offsets_start + (first + k) < length m.offsets) × T (non_neg (offset_at h m.offsets (first + k)))
  offset_lent = slot_lent h columns m (first + k) a.valued slot

  module _ (byte : mag (own_id h m.ids first n k) < 128) (o : given.Option Column) (e : column_told o ≡ column_of (used h columns) (passed_id h m.ids first n k)) where
    pub found : o ≡ Some (or_none (child_at h columns m.ids (first + k)))
    found = child_read h columns m.ids m.offsets (first + k) slot o (e ∙ ap (column_of (used h columns)) (id_is h m.ids first n k low byte))

    module _ (c : Column) (f : o ≡ Some c) (p : ℕ) (g : p ≡ slot_at h m.offsets (first + k)) where
      child_same : c ≡ or_none (child_at h columns m.ids (first + k))
      child_same = ap (λ (q : given.Option Column). or_none (column_told q)) (sym f ∙ found)

      pub inside : InChild c m p
      inside = rw (child_same, g) (in_child h columns m (first + k) a.valued slot)

      module _ (v : given.Option ℕ) (t : slot_told v ≡ slot_value_of c m p) where
        value_is : slot_told v ≡ slot_value_at h columns m (first + k)
        value_is = t ∙ rw (child_same, g)

        pub missing_told : (b : Bool) → is_some v ≡ not b → bool_byte b ≡ digit (slot_value_at h columns m (first + k)).missing
        missing_told b u = missing_is v b u ∙ ap (λ (w : SlotValue). digit w.missing) value_is

        pub bits_told : unwrap_or v 0 ≡ (slot_value_at h columns m (first + k)).bits
        bits_told = bits_is v ∙ ap (λ (w : SlotValue). w.bits) value_is
