-- For the code that reads a slot of a child.
use Rattle.std.specs.Prelude.{true, ◌≡◌, ℕ, ◌+◌, ◌<◌, ◌≤◌, length}
use Rattle.array_columns.specs.Types.{Column}
use Rattle.array_columns.specs.Buffers.{Buffers}
use Rattle.array_columns.specs.Questions.{presence_in}
use Rattle.array_columns.specs.Lookup.{column_value}
pub use Rattle.array_columns.specs.Lookup.{SlotValue, slot_told}

-- slot p of a child lies in its parts
pub record InChild (c : Column) (m : Buffers) (p : ℕ) : Type 0 where
  pub low : p < c.slots
  pub values : c.values + c.slots ≤ length m.values
  pub presence : presence_in m c ≡ true

-- slot p of a child, without its name
unfoldable pub slot_value_of : Column → Buffers → ℕ → SlotValue
slot_value_of c m p = record { bits = (column_value c m p).bits; missing = (column_value c m p).missing }
