-- For the code that reads the slots of an accepted array.
use Rattle.std.specs.Prelude.{true, List, ◌≡◌, ℕ, ◌<◌, ◌≤◌, eqb, ℤ, length}
use Rattle.array_slots.specs.Types.{Sparse, Column, Head}
use Rattle.array_columns.specs.Buffers.{Buffers}
use Rattle.array_columns.specs.Slots.{all}
use Rattle.array_columns.specs.Questions.{part_in, presence_in}
use Rattle.array_slots.specs.Slots.{used, named_at, fits_at}
use Rattle.array_slots.specs.Check.{Readable}

-- an array whose slots have values: what 1 to 6 tell of it as far as reading them needs it
pub record Valued (h : Head) (columns : List Column) (m : Buffers) : Type 0 where
  pub readable : Readable h columns m.ids m.offsets
  pub values : all (λ c. part_in c.values c.slots (length m.values)) (used h columns) ≡ true
  pub presence : all (presence_in m) (used h columns) ≡ true
  pub equal : h.layout ≡ Sparse → all (λ c. eqb c.slots h.count) (used h columns) ≡ true

-- 10, 7 and 8 of slot i
pub record SlotAccepted (h : Head) (columns : List Column) (ids offsets : List ℤ) (i : ℕ) : Type 0 where
  pub low : i < h.count
  pub named : named_at h columns ids i ≡ true
  pub fits : fits_at h columns ids offsets i ≡ true

-- slots with values, and 10, 7 and 8 of those from `first` on, below `end`
pub record SlotsAccepted (h : Head) (columns : List Column) (m : Buffers) (first end : ℕ) : Type 0 where
  pub valued : Valued h columns m
  pub slot : (i : ℕ) → first ≤ i → i < end → SlotAccepted h columns m.ids m.offsets i
