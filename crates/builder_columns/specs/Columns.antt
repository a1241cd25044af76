-- A builder's columns: a column, its name, and one with a slot more. A text in quotes is document 01's.
use Rattle.std.specs.Prelude.{Bool, true, false, not, ◌&&◌, ◌||◌, List, ℕ, suc, eqb, leb, length, get_or, Some, None}
use Rattle.std.proofs.Math.Option.{Option, none, some}
use Rattle.std.specs.declared.option.Option as code
use Rattle.array_columns.specs.declared.Kind.{Kind}
use Rattle.array_columns.specs.declared.Kind.TheVariants.{Int8}
use Rattle.array_columns.specs.declared.Layout.{Layout}
use Rattle.array_columns.specs.Types.{by_layout}
use Rattle.union_names.specs.Names.{same_name, name_in}
pub use Rattle.builder_columns.specs.declared.BuilderColumn.{BuilderColumn}

-- ---- whatever lists all fields of a column

-- the column of zeros
abbrev pub no_builder_column : BuilderColumn
no_builder_column = record { slots = 0; size = 0; kind = Int8; masked = false }

-- a new column of the name and kind, with n slots so far, all null
abbrev pub opened : List ℕ → Kind → ℕ → BuilderColumn
opened name kind n = record { slots = n; size = length name; kind = kind; masked = not (eqb n 0) }

-- a column with one more slot, a null or not: "A builder column has a mask exactly if a null was put in it."
abbrev pub grown_by : BuilderColumn → Bool → BuilderColumn
grown_by c null = record { slots = suc c.slots; size = c.size; kind = c.kind; masked = c.masked || null }

-- ---- one column

-- "names at most 32 bytes, slots at most length, in sparse equal to it", of a builder of so many slots
abbrev pub fits : Layout → ℕ → BuilderColumn → Bool
fits l len c = leb c.size 32 && (leb c.slots len && by_layout l (eqb c.slots len) true)

-- column c has id k and goes by the name: its own bytes are the name's
abbrev pub goes_by : List ℕ → ℕ → BuilderColumn → List ℕ → Bool
goes_by names k c name = same_name name (name_in names k c.size)

-- an appended value, or none for a null
abbrev pub some_if : Bool → ℕ → Option ℕ
some_if true x = some x
some_if false x = none

-- the code's value, or none for a null
abbrev pub given : code.Option ℕ → Option ℕ
given None = none
given (Some x) = some x

-- it is a null
abbrev pub is_none {ℓ} : {A : Type ℓ} → Option A → Bool
is_none none = true
is_none (some a) = false

-- the value, or d of a null
abbrev pub or_else {ℓ} : {A : Type ℓ} → Option A → A → A
or_else none d = d
or_else (some a) d = a

-- a column with one more slot, of a value or a null
abbrev pub grown : BuilderColumn → Option ℕ → BuilderColumn
grown c v = grown_by c (is_none v)

-- ---- a builder's columns, by their ids

abbrev pub nth_column : List BuilderColumn → ℕ → BuilderColumn
nth_column cs k = get_or cs k no_builder_column

-- column k has the name
abbrev pub has_name : List BuilderColumn → List ℕ → List ℕ → ℕ → Bool
has_name cs names name k = goes_by names k (nth_column cs k) name
