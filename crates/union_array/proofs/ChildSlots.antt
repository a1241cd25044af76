-- A slot's child and its slot in it, and what the lookups tell of them. Assumes nothing.
use mathlib.Core.Bool.{true}
use mathlib.Core.Option.{Option, none}
use mathlib.Core.Path.{◌≡◌, refl, sym, ap, ◌∙◌}
use Prim.Native.Nat.{ℕ, zero, suc, ◌<◌}
use Rattle.std.specs.Prelude.{Ok, Err}
use Rattle.std.specs.declared.option.Option as given
use Rattle.array_slots.specs.declared.ChildSlot as code
use Rattle.array_columns.specs.declared.Value as codeValue
use Rattle.array_columns.specs.declared.Refusal.{Refusal}
use Rattle.union_array.specs.Types.{Column, UnionArray}
use Rattle.array_columns.specs.Buffers.{Buffers, amounts_of}
use Rattle.array_columns.specs.Refusal.{if_yes, refusal_number}
use Rattle.array_columns.specs.Pass.{column_told}
use Rattle.array_columns.specs.Lookup.{accepted_value}
use Rattle.union_array.specs.Slots.{in_use, type_id_at, offset_at, child_at, slot_at}
use Rattle.union_array.specs.Questions.{column_in, asked, slot_checked}
use Rattle.union_array.specs.Lookup.{or_none, value_in, column_value, value_told, value_of, type_id_told, type_id_of, value_offset_told, value_offset_of}
use Rattle.union_array.specs.Look.{Looked, looked_told, looked_by, look_of, child_slot_of}
use Rattle.array_slots.specs.ChildSlot.{child_slot_told, settled}
use Rattle.array_columns.proofs.Numbered.{if_refused, then_refused}
use Rattle.array_slots.proofs.ChildSlots.{settled_after}
use Rattle.union_array.proofs.Accepted.{Accepted, SlotAccepted, child_is, slot_accepted, slot_in}
use Rattle.array_columns.proofs.Columns.{all_found}

module _ (a : UnionArray) (m : Buffers) (i : ℕ) where
  -- what was looked up settles the slot
  pub settled_is : (l : Looked) → l ≡ look_of a m (type_id_at a m i)
      → settled l a.layout a.count i (type_id_at a m i) (offset_at a m i) ≡ child_slot_of a m i
  unfolding settled look_of child_slot_of slot_checked
  settled_is l e = rw e (by (asked a m))
    where
      by : (n : ℕ) → settled (looked_by (child_at a m i) n) a.layout a.count i (type_id_at a m i) (offset_at a m i)
          ≡ settled_after (child_at a m i) a.layout a.count i (type_id_at a m i) (offset_at a m i) n
      by zero = refl
      by (suc n) = refl

  pub slot_refused : (r : Refusal) → looked_told (Err r) ≡ look_of a m (type_id_at a m i) → child_slot_told (Err r) ≡ child_slot_of a m i
  unfolding look_of child_slot_of slot_checked
  slot_refused r e = rw (← ap (λ l. l.refusal) e, then_refused r, if_refused r, if_refused r, if_refused r)

  -- the number is the first of what 1 to 6 give and what the slot gives
  pub settled_whole : settled_after (child_at a m i) a.layout a.count i (type_id_at a m i) (offset_at a m i) (asked a m) ≡ child_slot_of a m i
  unfolding settled child_slot_of slot_checked
  settled_whole = refl

  -- ---- refused slots

  module _ (r : Refusal) (e : child_slot_told (Err r) ≡ child_slot_of a m i) where
    number : refusal_number r ≡ slot_checked a m i
    unfolding child_slot_of
    number = ap (λ s. s.refusal) e

    pub value_refused : value_told (Err r) ≡ value_of a m i
    unfolding value_of
    value_refused = rw (← number, if_refused r)

    pub type_id_refused : type_id_told (Err r) ≡ type_id_of a m i
    unfolding type_id_of
    type_id_refused = rw (← number, if_refused r)

    pub offset_refused : value_offset_told (Err r) ≡ value_offset_of a m i
    unfolding value_offset_of
    offset_refused = rw (← number, if_refused r)

  -- ---- accepted ones

  module _ (s : code.ChildSlot) (e : child_slot_told (Ok s) ≡ child_slot_of a m i) where
    pub checked_is : slot_checked a m i ≡ 0
    unfolding child_slot_of
    checked_is = sym (ap (λ s. s.refusal) e)

    pub column_is : s.column ≡ or_none (child_at a m i)
    unfolding child_slot_of
    column_is = ap (λ s. s.column) e ∙ rw (checked_is) refl

    pub slot_is : s.slot ≡ slot_at a m i
    unfolding child_slot_of
    slot_is = ap (λ s. s.slot) e ∙ rw (checked_is) refl

    pub type_id_is : type_id_told (Ok s.id) ≡ type_id_of a m i
    unfolding type_id_of child_slot_of
    type_id_is = let f = ap (λ s. s.id) e in rw (f, checked_is)

    pub value_offset_is : value_offset_told (Ok s.slot) ≡ value_offset_of a m i
    unfolding value_offset_of
    value_offset_is = rw (slot_is, checked_is)

    accepts : Accepted a m × SlotAccepted a m i
    accepts = slot_accepted a m i checked_is

    -- its child's parts lie in lent memory, and the slot is one of the child's
    pub child_in : column_in (amounts_of m) s.column ≡ true
    child_in =
        rw column_is (all_found (column_in (amounts_of m)) (in_use a) (type_id_at a m i) (or_none (child_at a m i)) accepts.0.parts (child_is a m accepts.0 i accepts.1))

    pub slot_within : s.slot < s.column.slots
    slot_within = rw (column_is, slot_is) (slot_in a m accepts.0 i accepts.1)

    pub value_is : (v : codeValue.Value) → accepted_value v ≡ column_value s.column m s.slot → value_told (Ok v) ≡ value_of a m i
    unfolding value_of
    value_is v f = f ∙ rw (column_is, slot_is, checked_is) (sym (ap (λ (o : Option Column). value_in o m (slot_at a m i)) (child_is a m accepts.0 i accepts.1)))
