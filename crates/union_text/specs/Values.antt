-- Values as text: integers in full, floats as a decimal that reads back.
use Rattle.std.specs.Prelude.{◌≡◌, cond, List, ℕ, ◌-◌, ◌/◌, ◌^◌, ◌≤◌, take, Option, Some}
use Rattle.decimal.specs.Integers.{integer_of, is_hex, hex_of}
use Rattle.decimal.specs.Text.{integer_text, Output, output}
use Rattle.decimal_float.specs.declared.Format.TheVariants.{Binary32, Binary64}
use Rattle.decimal_float.specs.Floats.{float_of}
use Rattle.array_columns.specs.declared.Kind.{Kind}
use Rattle.array_columns.specs.declared.Kind.TheVariants.{Int8, Int16, Int32, Int64, UInt8, UInt16, UInt32, UInt64, Float32, Float64}
use Rattle.union_array.specs.Types.{width_of}
use Rattle.union_text.specs.declared.Values.{Values}
use Rattle.union_text.specs.declared.Values.TheVariants.{Integers, Floats}

-- what the values of a kind are: integers from minus the first number to the second, or floats
abbrev pub values_of : Kind → Values
values_of Int8 = Integers (2 ^ 7) (2 ^ 7 - 1)
values_of Int16 = Integers (2 ^ 15) (2 ^ 15 - 1)
values_of Int32 = Integers (2 ^ 31) (2 ^ 31 - 1)
values_of Int64 = Integers (2 ^ 63) (2 ^ 63 - 1)
values_of UInt8 = Integers 0 (2 ^ 8 - 1)
values_of UInt16 = Integers 0 (2 ^ 16 - 1)
values_of UInt32 = Integers 0 (2 ^ 32 - 1)
values_of UInt64 = Integers 0 (2 ^ 64 - 1)
values_of Float32 = Floats Binary32
values_of Float64 = Floats Binary64

-- the bits of the value that a decimal tells
abbrev pub decimal_of : Values → List ℕ → Option ℕ
decimal_of (Integers lowest highest) text = integer_of text lowest highest
decimal_of (Floats f) text = float_of f text

-- the bits of the value that a text tells: a decimal, or 0x and a hexadecimal digit for each 4 bits
unfoldable pub bits_of : Kind → List ℕ → Option ℕ
bits_of k text = cond (is_hex text) (hex_of text (width_of k / 4)) (decimal_of (values_of k) text)

-- what a writer of a value leaves and answers: an integer in full and the bytes after it kept, or for a float a text that reads back to its bits
abbrev pub Told : Values → ℕ → List ℕ → List ℕ → ℕ → Type 0
Told (Integers lowest highest) bits was now size = ◌≡◌ {A = Output} (record { size = size; bytes = now }) (output (integer_text bits highest) was)
Told (Floats f) bits was now size = (size ≤ 37) × (float_of f (take size now) ≡ Some bits)
