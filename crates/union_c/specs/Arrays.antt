-- Arrays and their answers as C structs.
use Rattle.std.specs.Prelude.{Bool, ◌&&◌, take, replicate, Result}
use Rattle.bitmap.specs.Bits.{digit}
use Rattle.array_columns.specs.declared.Column.{Column}
use Rattle.array_columns.specs.declared.Refusal.{Refusal}
use Rattle.union_array.specs.declared.UnionArray.{UnionArray}
use Rattle.array_columns.specs.Lookup.{Value}
use Rattle.union_array.specs.declared.NamePlace.{NamePlace}
use Rattle.union_array.specs.Types.{kind_number, no_column}
use Rattle.union_array.specs.Lookup.{TypeId, ValueOffset, Child, TypeNames, Flag, no_name}
use Rattle.union_array.specs.Slices.{Slice}
use Rattle.array_columns.specs.Numbers.{kind_from, layout_from, layout_number, is_layout, flag_from}
use Rattle.union_c.specs.Numbers.{is_case, named, each, first_by}
pub use Rattle.union_c.specs.declared.CColumn.{CColumn}
pub use Rattle.union_c.specs.declared.CArray.{CArray}
pub use Rattle.union_c.specs.declared.CValue.{CValue}
pub use Rattle.union_c.specs.declared.CTypeId.{CTypeId}
pub use Rattle.union_c.specs.declared.CValueOffset.{CValueOffset}
pub use Rattle.union_c.specs.declared.CChild.{CChild}
pub use Rattle.union_c.specs.declared.CNamePlace.{CNamePlace}
pub use Rattle.union_c.specs.declared.CTypeNames.{CTypeNames}
pub use Rattle.union_c.specs.declared.CFlag.{CFlag}
pub use Rattle.union_c.specs.declared.CSlice.{CSlice}

-- ---- reading
abbrev pub column_from : CColumn → Column
column_from c = record {
  values = c.values;
  mask = c.mask;
  name = c.name;
  slots = c.slots;
  bit = c.bit;
  size = c.size;
  id = c.id;
  kind = kind_from c.kind;
  masked = flag_from c.masked;
}

-- a column whose numbers name cases
abbrev pub is_column : CColumn → Bool
is_column c = is_case c.kind c.masked

-- entries past the columns in use are not read; a number that names no case is read as the first
unfoldable pub array_from : CArray → UnionArray
array_from a = record {
  columns = first_by a.fields column_from a.columns (replicate 128 no_column);
  fields = a.fields;
  children = a.children;
  start = a.start;
  count = a.count;
  offsets_start = a.offsets_start;
  offsets_count = a.offsets_count;
  layout = layout_from a.layout;
}

-- every number of the columns in use names a case; entries past the fields may hold anything
unfoldable pub is_array : CArray → Bool
is_array a = is_layout a.layout && each is_column (take a.fields a.columns)

-- that array, or the refusal
abbrev pub array_named : CArray → Result UnionArray Refusal
array_named a = named is_array array_from a

-- ---- writing
abbrev pub column_to : Column → CColumn
column_to c = record {
  values = c.values;
  mask = c.mask;
  name = c.name;
  slots = c.slots;
  bit = c.bit;
  size = c.size;
  id = c.id;
  kind = kind_number c.kind;
  masked = digit c.masked;
}

-- entries past the columns in use are zeros
unfoldable pub array_to : UnionArray → CArray
array_to a = record {
  columns = first_by a.fields column_to a.columns (replicate 128 (column_to no_column));
  fields = a.fields;
  children = a.children;
  start = a.start;
  count = a.count;
  offsets_start = a.offsets_start;
  offsets_count = a.offsets_count;
  layout = layout_number a.layout;
}

abbrev pub value_to : Value → CValue
value_to v = record {
  bits = v.bits;
  name = v.name;
  size = v.size;
  refusal = v.refusal;
  id = v.id;
  kind = kind_number v.kind;
  missing = digit v.missing;
}

abbrev pub flag_to : Flag → CFlag
flag_to f = record { refusal = f.refusal; holds = digit f.holds }

abbrev pub type_id_to : TypeId → CTypeId
type_id_to t = record { refusal = t.refusal; id = t.id }

abbrev pub value_offset_to : ValueOffset → CValueOffset
value_offset_to o = record { offset = o.offset; refusal = o.refusal }

abbrev pub child_to : Child → CChild
child_to c = record { column = column_to c.column; refusal = c.refusal }

abbrev pub name_to : NamePlace → CNamePlace
name_to n = record { start = n.start; size = n.size }

unfoldable pub type_names_to : TypeNames → CTypeNames
type_names_to t = record { names = first_by t.count name_to t.names (replicate 128 (name_to no_name)); count = t.count; refusal = t.refusal }

abbrev pub slice_to : Slice → CSlice
slice_to s = record { array = array_to s.array; refusal = s.refusal }
