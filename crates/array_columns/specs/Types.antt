-- The declared types of a column, and what document 01 says of their cases.
use Rattle.std.specs.Prelude.{Bool, false, ℕ, ◌+◌, ◌*◌, ◌%◌, ◌^◌, eqb, pos}
pub use Rattle.array_columns.specs.declared.Kind.{Kind}
pub use Rattle.array_columns.specs.declared.Kind.TheVariants.{Int8, Int16, Int32, Int64, UInt8, UInt16, UInt32, UInt64, Float32, Float64}
pub use Rattle.array_columns.specs.declared.Layout.{Layout}
pub use Rattle.array_columns.specs.declared.Layout.TheVariants.{Sparse, Dense}
pub use Rattle.array_columns.specs.declared.Column.{Column}
pub use Rattle.array_columns.specs.declared.Amounts.{Amounts}
pub use Rattle.array_columns.specs.declared.Head.{Head}

-- the kinds in 01's order, "Int8 to Int64, UInt8 to UInt64, Float32, Float64"
abbrev pub kind_number : Kind → ℕ
kind_number Int8 = 0
kind_number Int16 = 1
kind_number Int32 = 2
kind_number Int64 = 3
kind_number UInt8 = 4
kind_number UInt16 = 5
kind_number UInt32 = 6
kind_number UInt64 = 7
kind_number Float32 = 8
kind_number Float64 = 9

-- two kinds are the same
abbrev pub same_kind : Kind → Kind → Bool
same_kind a b = eqb (kind_number a) (kind_number b)

-- the bits of a value of the kind
abbrev pub width_of : Kind → ℕ
width_of Int8 = 8
width_of Int16 = 16
width_of Int32 = 32
width_of Int64 = 64
width_of UInt8 = 8
width_of UInt16 = 16
width_of UInt32 = 32
width_of UInt64 = 64
width_of Float32 = 32
width_of Float64 = 64

-- "its low bits are the value, and lookup answers, and append stores, zeros above them", for a width of w bits
unfoldable pub low_bits : ℕ → ℕ → ℕ
low_bits w x = x % 2 ^ w

-- one thing for sparse, another for dense
abbrev pub by_layout {ℓ} : {A : Type ℓ} → Layout → A → A → A
by_layout Sparse s d = s
by_layout Dense s d = d

-- ---- a column, and all that lists its fields

-- the column of zeros
abbrev pub no_column : Column
no_column = record { values = 0; mask = 0; name = 0; slots = 0; bit = 0; size = 0; id = pos 0; kind = Int8; masked = false }

-- the column with other slots: their first value word, the mask word and bit of the first, and how many
abbrev pub with_slots : ℕ → ℕ → ℕ → ℕ → Column → Column
with_slots values mask bit slots c = record {
  values = values;
  mask = mask;
  name = c.name;
  slots = slots;
  bit = bit;
  size = c.size;
  id = c.id;
  kind = c.kind;
  masked = c.masked;
}

-- "first mask bit", held as a word and a bit of it
abbrev pub first_bit : Column → ℕ
first_bit c = 64 * c.mask + c.bit
