-- The names of the kinds, in ASCII, and the kind of a name.
use Rattle.std.specs.Prelude.{List, [], ◌∷◌, ℕ, Option, find}
use Rattle.bitmap.specs.Lists.{table}
use Rattle.array_columns.specs.declared.Kind.{Kind}
use Rattle.array_columns.specs.declared.Kind.TheVariants.{Int8, Int16, Int32, Int64, UInt8, UInt16, UInt32, UInt64, Float32, Float64}
use Rattle.array_columns.specs.Numbers.{kind_from}
use Rattle.union_names.specs.Names.{same_name}

-- "Int", "UInt" and "Float", before some digits
abbrev pub int : List ℕ → List ℕ
int digits = 73 ∷ (110 ∷ (116 ∷ digits))

abbrev pub uint : List ℕ → List ℕ
uint digits = 85 ∷ int digits

abbrev pub float : List ℕ → List ℕ
float digits = 70 ∷ (108 ∷ (111 ∷ (97 ∷ (116 ∷ digits))))

-- a kind's name, as the Rust spells it
abbrev pub kind_name : Kind → List ℕ
kind_name Int8 = int (56 ∷ [])
kind_name Int16 = int (49 ∷ (54 ∷ []))
kind_name Int32 = int (51 ∷ (50 ∷ []))
kind_name Int64 = int (54 ∷ (52 ∷ []))
kind_name UInt8 = uint (56 ∷ [])
kind_name UInt16 = uint (49 ∷ (54 ∷ []))
kind_name UInt32 = uint (51 ∷ (50 ∷ []))
kind_name UInt64 = uint (54 ∷ (52 ∷ []))
kind_name Float32 = float (51 ∷ (50 ∷ []))
kind_name Float64 = float (54 ∷ (52 ∷ []))

-- the kind that a text names: the first of the ten that has it as its name
unfoldable pub kind_named : List ℕ → Option Kind
kind_named text = find (λ k. same_name text (kind_name k)) (table 10 kind_from)
