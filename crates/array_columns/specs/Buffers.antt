-- Lent memory: "type ids (i8), offsets (i32), value words (u64), mask words (u64), name bytes".
use Rattle.std.specs.Prelude.{◌≡◌, List, [], ℕ, ℤ, length}
use Rattle.array_columns.specs.Types.{Amounts}
use Rattle.array_columns.specs.declared.BuffersMut.{BuffersMut}

-- lent memory, each slice as a list
pub record Buffers : Type 0 where
  pub ids : List ℤ
  pub offsets : List ℤ
  pub values : List ℕ
  pub masks : List ℕ
  pub names : List ℕ

-- the five slices of a call, in the order of its parameters
abbrev pub buffers_of : List ℤ → List ℤ → List ℕ → List ℕ → List ℕ → Buffers
buffers_of ids offsets values masks names = record { ids = ids; offsets = offsets; values = values; masks = masks; names = names }

-- lent memory, to write: what its slices hold
abbrev pub held : BuffersMut → Buffers
held m = buffers_of m.type_ids.now m.offsets.now m.values.now m.masks.now m.names.now

-- it is the same memory, whatever it holds
pub record Same (n m : BuffersMut) : Type 0 where
  pub ids : n.type_ids.ghost_name ≡ m.type_ids.ghost_name
  pub offsets : n.offsets.ghost_name ≡ m.offsets.ghost_name
  pub values : n.values.ghost_name ≡ m.values.ghost_name
  pub masks : n.masks.ghost_name ≡ m.masks.ghost_name
  pub names : n.names.ghost_name ≡ m.names.ghost_name

-- lent memory of which only the value words and the mask words matter
abbrev pub only_words : List ℕ → List ℕ → Buffers
only_words values masks = buffers_of [] [] values masks []

-- "the amounts lent"
abbrev pub amounts_of : Buffers → Amounts
amounts_of m = record {
  ids = length m.ids;
  offsets = length m.offsets;
  values = length m.values;
  masks = length m.masks;
  names = length m.names;
}
