-- A child's slot by value.
use Rattle.std.specs.Prelude.{Bool, true, false, cond, not, List, ◌++◌, ℕ, ◌+◌, ℤ, pos, get_or, take, drop, replicate, Result, Ok, Err, Some, None}
use Rattle.std.proofs.Math.Option.{Option, none, some}
use Rattle.std.specs.declared.option.Option as given
use Rattle.array_columns.specs.Types.{Kind, Int8, Column, no_column, width_of, low_bits}
use Rattle.array_columns.specs.Buffers.{Buffers}
use Rattle.array_columns.specs.Slots.{present}
use Rattle.array_columns.specs.declared.Value as code
use Rattle.array_columns.specs.Refusal.{Refusal, refusal_number}

-- what `value` answers, in document 01's numbers: "id, name (its length, and 32 bytes by value with zeros after it), kind, missing or not, and the value"
pub record Value : Type 0 where
  pub bits : ℕ
  pub name : List ℕ
  pub size : ℕ
  pub refusal : ℕ
  pub id : ℤ
  pub kind : Kind
  pub missing : Bool

-- "32 bytes by value with zeros after it"
unfoldable pub padded : List ℕ → List ℕ
padded name = take 32 (name ++ replicate 32 0)

-- slot p of a child: "id, name .., kind, missing or not, and the value, 0 when missing"
unfoldable pub column_value : Column → Buffers → ℕ → Value
column_value c m p = record {
  bits = cond (present c m p) (low_bits (width_of c.kind) (get_or m.values (c.values + p) 0)) 0;
  name = padded (take c.size (drop c.name m.names));
  size = c.size;
  refusal = 0;
  id = c.id;
  kind = c.kind;
  missing = not (present c m p);
}

-- a refused lookup: "all other answer fields 0", and "for a kind Int8"
abbrev pub no_value : ℕ → Value
no_value n = record { bits = 0; name = replicate 32 0; size = 0; refusal = n; id = pos 0; kind = Int8; missing = false }

-- slot p of the child found; 7 refuses a slot without one before this is asked
abbrev pub value_in : Option Column → Buffers → ℕ → Value
value_in none m p = no_value 7
value_in (some c) m p = column_value c m p

-- the column found, or the column of zeros
abbrev pub or_none : Option Column → Column
or_none none = no_column
or_none (some c) = c

-- a slot's value, and whether it is missing
pub record SlotValue : Type 0 where
  pub bits : ℕ
  pub missing : Bool

-- the code's answer of a slot: "the value, 0 when missing"
abbrev pub slot_told : given.Option ℕ → SlotValue
slot_told (Some bits) = record { bits = bits; missing = false }
slot_told None = record { bits = 0; missing = true }

-- the code's answer, accepted: "missing or not, and the value, 0 when missing"
abbrev pub accepted_value : code.Value → Value
accepted_value v = record {
  bits = (slot_told v.value).bits;
  name = v.name;
  size = v.size;
  refusal = 0;
  id = v.id;
  kind = v.kind;
  missing = (slot_told v.value).missing;
}

-- the code's answer: of each case, document 01's number and values
abbrev pub value_told : Result code.Value Refusal → Value
value_told (Ok v) = accepted_value v
value_told (Err r) = no_value (refusal_number r)
