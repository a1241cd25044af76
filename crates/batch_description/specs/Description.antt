-- The array that describes a batch: its columns in order by name. A text in quotes is document 01's.
use Rattle.std.specs.Prelude.{cond, List, [], ◌∷◌, ◌++◌, map, ℕ, zero, suc, ◌-◌, ◌*◌, pos, replicate}
use Rattle.bitmap.specs.Bits.{words_for}
use Rattle.array_columns.specs.declared.Column.{Column}
use Rattle.union_array.specs.declared.UnionArray.{UnionArray}
use Rattle.array_columns.specs.declared.Layout.{Layout}
use Rattle.array_columns.specs.Types.{by_layout, no_column}
use Rattle.union_names.specs.Names.{name_up_to, name_in}
use Rattle.builder_columns.specs.declared.BuilderColumn.{BuilderColumn}
use Rattle.builder_columns.specs.Columns.{nth_column}
use Rattle.builder_columns.specs.declared.BuilderHead.{BuilderHead}

-- ---- whatever lists all fields of a column or of an array

-- "Column k has words kC to kC + C - 1, its own mask words (C divided by 64, rounded up), and 32 name bytes, each laid in column order."
abbrev pub described_column : BuilderColumn → ℕ → ℕ → Column
described_column d k c = record {
  values = k * c;
  mask = k * words_for c;
  name = 32 * k;
  slots = d.slots;
  bit = 0;
  size = d.size;
  id = pos k;
  kind = d.kind;
  masked = d.masked;
}

-- the array of the first n slots, over k columns that are listed
abbrev pub array_of : Layout → ℕ → ℕ → List Column → UnionArray
array_of l n k cs = record {
  columns = cs;
  fields = k;
  children = k;
  start = 0;
  count = n;
  offsets_start = 0;
  offsets_count = by_layout l 0 n;
  layout = l;
}

-- ---- columns in order

-- a column with its name
pub record Named : Type 0 where
  pub name : List ℕ
  pub column : Column

-- a column goes behind those whose name is at most its own
abbrev pub insert : Named → List Named → List Named
insert c [] = c ∷ []
insert c (d ∷ ds) = cond (name_up_to d.name c.name) (d ∷ insert c ds) (c ∷ d ∷ ds)

-- columns 0, 1, .., n - 1 put in order by name, of equal names "the lower id is listed first"
abbrev pub ordered : ℕ → (ℕ → Named) → List Named
ordered zero f = []
ordered (suc n) f = insert (f n) (ordered n f)

-- the array of the first n slots, over k columns, each with its name
unfoldable pub assembled : Layout → ℕ → ℕ → (ℕ → Named) → UnionArray
assembled l n k f = array_of l n k (map (λ c. c.column) (ordered k f) ++ replicate (128 - k) no_column)

-- the array of n slots over k columns, all still those of zeros
abbrev pub blank_of : Layout → ℕ → ℕ → UnionArray
blank_of l n k = array_of l n k (replicate 128 no_column)

-- column k with its name in the lent bytes, of a builder of c slots
abbrev pub named_as : List BuilderColumn → ℕ → List ℕ → ℕ → Named
named_as cs c names k = record { name = name_in names k (nth_column cs k).size; column = described_column (nth_column cs k) k c }

-- what a builder's columns are described as
unfoldable pub described_by : BuilderHead → List BuilderColumn → List ℕ → UnionArray
described_by h cs names = assembled h.layout h.len h.count (named_as cs h.capacity names)
