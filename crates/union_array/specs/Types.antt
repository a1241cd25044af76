-- The array, beside the types of its columns (array_columns).
use Rattle.std.specs.Prelude.{List, ℕ, ◌+◌, replicate}
pub use Rattle.union_array.specs.declared.UnionArray.{UnionArray}
pub use Rattle.array_columns.specs.declared.Kind.{Kind}
pub use Rattle.array_columns.specs.declared.Kind.TheVariants.{Int8, Int16, Int32, Int64, UInt8, UInt16, UInt32, UInt64, Float32, Float64}
pub use Rattle.array_columns.specs.declared.Layout.{Layout}
pub use Rattle.array_columns.specs.declared.Layout.TheVariants.{Sparse, Dense}
pub use Rattle.array_columns.specs.declared.Column.{Column}
pub use Rattle.array_columns.specs.declared.Amounts.{Amounts}
pub use Rattle.array_columns.specs.declared.Head.{Head}
pub use Rattle.array_columns.specs.Types.{kind_number, same_kind, width_of, by_layout, no_column, with_slots, first_bit}
unfoldable pub use Rattle.array_columns.specs.Types.{low_bits}

-- ---- an array, and all that lists its fields

-- the empty description, of no fields and no slots
abbrev pub no_array : UnionArray
no_array = record {
  columns = replicate 128 no_column;
  fields = 0;
  children = 0;
  start = 0;
  count = 0;
  offsets_start = 0;
  offsets_count = 0;
  layout = Sparse;
}

-- "moves the start of type ids by o and sets count n; dense moves the offsets too"; the columns as they are
abbrev pub narrowed : Layout → ℕ → ℕ → UnionArray → UnionArray
narrowed l o n a = record {
  columns = a.columns;
  fields = a.fields;
  children = a.children;
  start = a.start + o;
  count = n;
  offsets_start = by_layout l a.offsets_start (a.offsets_start + o);
  offsets_count = by_layout l a.offsets_count n;
  layout = a.layout;
}

-- an array but for its columns
abbrev pub head_of : UnionArray → Head
head_of a = record {
  fields = a.fields;
  children = a.children;
  start = a.start;
  count = a.count;
  offsets_start = a.offsets_start;
  offsets_count = a.offsets_count;
  layout = a.layout;
}

-- the array of a head and a column list
abbrev pub array_of : Head → List Column → UnionArray
array_of h columns = record {
  columns = columns;
  fields = h.fields;
  children = h.children;
  start = h.start;
  count = h.count;
  offsets_start = h.offsets_start;
  offsets_count = h.offsets_count;
  layout = h.layout;
}

-- the array with another list of columns
abbrev pub relisted : UnionArray → List Column → UnionArray
relisted a columns = array_of (head_of a) columns
