-- A run of slots of an array that 1 to 6 accept: the id, the presence and the value of each.
use Rattle.std.specs.Prelude.{Bool, ◌&&◌, List, ℕ, zero, suc, ◌+◌, leb, ℤ, length}
use Rattle.bitmap.specs.Lists.{retable}
use Rattle.bitmap.specs.Bits.{digit}
use Rattle.array_slots.specs.Types.{Column, Head}
use Rattle.array_columns.specs.Buffers.{Buffers}
use Rattle.array_columns.specs.Refusal.{no, ◌then◌, if_yes}
use Rattle.array_columns.specs.Lookup.{or_none}
use Rattle.array_columns.specs.Numbers.{bad_length}
use Rattle.array_columns.specs.Accepted.{slot_value_of}
use Rattle.array_slots.specs.Slots.{id_at, child_at, slot_at, slot_no}
pub use Rattle.array_columns.specs.Lookup.{SlotValue}

-- f 0, f 1, .., f (n - 1): the first of them that is not 0
abbrev pub first_refusal : ℕ → (ℕ → ℕ) → ℕ
first_refusal zero f = 0
first_refusal (suc n) f = first_refusal n f then f n

-- the number, and the outputs at exit
pub record Values : Type 0 where
  pub refusal : ℕ
  pub ids : List ℤ
  pub missing : List ℕ
  pub bits : List ℕ

abbrev pub values_answer : ℕ → List ℤ → List ℕ → List ℕ → Values
values_answer refusal ids missing bits = record { refusal = refusal; ids = ids; missing = missing; bits = bits }

abbrev pub has_room : ℕ → List ℤ → List ℕ → List ℕ → Bool
has_room n ids missing bits = leb n (length ids) && (leb n (length missing) && leb n (length bits))

-- slot i's, in its child
abbrev pub slot_value_at : Head → List Column → Buffers → ℕ → SlotValue
slot_value_at h columns m i = slot_value_of (or_none (child_at h columns m.ids i)) m (slot_at h m.offsets i)

-- 10 of the whole run of n slots; 7 and 8 of its slots in order; 129 where the outputs have no room for it
unfoldable pub run_no : Head → List Column → List ℤ → List ℤ → ℕ → ℕ → Bool → ℕ
run_no h columns ids offsets first n room =
    no 10 (leb (first + n) h.count)
    then first_refusal n (λ k. slot_no h columns ids offsets (first + k))
    then no bad_length room

-- by that number: element k of the outputs is of slot first + k; later elements, and all if refused, are kept
unfoldable pub run_by : ℕ → Head → List Column → Buffers → ℕ → ℕ → List ℤ → List ℕ → List ℕ → Values
run_by r h columns m first n ids missing bits =
    values_answer r (if_yes r (retable n (λ k. id_at h m.ids (first + k)) ids) ids)
    (if_yes r (retable n (λ k. digit (slot_value_at h columns m (first + k)).missing) missing) missing)
    (if_yes r (retable n (λ k. (slot_value_at h columns m (first + k)).bits) bits) bits)

-- the run: the first no, and the outputs
abbrev pub run_of : Head → List Column → Buffers → ℕ → ℕ → List ℤ → List ℕ → List ℕ → Values
run_of h columns m first n ids missing bits =
    run_by (run_no h columns m.ids m.offsets first n (has_room n ids missing bits)) h columns m first n ids missing bits
