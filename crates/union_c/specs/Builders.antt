-- Builders and their answers as C structs.
use Rattle.std.specs.Prelude.{Bool, ◌&&◌, ℕ, take, replicate, Result}
use Rattle.bitmap.specs.Bits.{digit}
use Rattle.union_array.specs.Types.{kind_number, no_array}
use Rattle.array_columns.specs.declared.Refusal.{Refusal}
use Rattle.array_columns.specs.Refusal.{if_yes}
use Rattle.array_columns.specs.Numbers.{kind_from, layout_from, layout_number, is_layout, flag_from, bad_number}
use Rattle.builder_columns.specs.declared.BuilderColumn.{BuilderColumn}
use Rattle.union_builder.specs.declared.UnionBuilder.{UnionBuilder}
use Rattle.union_builder.specs.declared.Length.{Length}
use Rattle.union_builder.specs.Builder.{Made, no_builder_column}
use Rattle.union_builder.specs.Append.{Appended}
use Rattle.union_builder.specs.Finish.{Finished}
use Rattle.union_array.specs.Slices.{Slice}
use Rattle.union_c.specs.Numbers.{is_case, named, each, first_by}
use Rattle.union_c.specs.Arrays.{array_to}
pub use Rattle.union_c.specs.declared.CBuilderColumn.{CBuilderColumn}
pub use Rattle.union_c.specs.declared.CBuilder.{CBuilder}
pub use Rattle.union_c.specs.declared.CBuilt.{CBuilt}
pub use Rattle.union_c.specs.declared.CLength.{CLength}
pub use Rattle.union_c.specs.declared.CFinished.{CFinished}

-- ---- reading
abbrev pub builder_column_from : CBuilderColumn → BuilderColumn
builder_column_from c = record { slots = c.slots; size = c.size; kind = kind_from c.kind; masked = flag_from c.masked }

-- a column whose numbers name cases
abbrev pub is_builder_column : CBuilderColumn → Bool
is_builder_column c = is_case c.kind c.masked

-- entries past the columns in use are not read; a number that names no case is read as the first
unfoldable pub builder_from : CBuilder → UnionBuilder
builder_from b = record {
  columns = first_by b.count builder_column_from b.columns (replicate 128 no_builder_column);
  capacity = b.capacity;
  limit = b.limit;
  len = b.len;
  count = b.count;
  layout = layout_from b.layout;
}

-- every number of the columns in use names a case; later entries may hold anything
unfoldable pub is_builder : CBuilder → Bool
is_builder b = is_layout b.layout && each is_builder_column (take b.count b.columns)

-- that builder, or the refusal
abbrev pub builder_named : CBuilder → Result UnionBuilder Refusal
builder_named b = named is_builder builder_from b

-- ---- writing
abbrev pub builder_column_to : BuilderColumn → CBuilderColumn
builder_column_to c = record { slots = c.slots; size = c.size; kind = kind_number c.kind; masked = digit c.masked }

-- to a caller who keeps c: entries past the columns in use stay as they are
unfoldable pub builder_into : CBuilder → UnionBuilder → CBuilder
builder_into c b = record {
  columns = first_by b.count builder_column_to b.columns c.columns;
  capacity = b.capacity;
  limit = b.limit;
  len = b.len;
  count = b.count;
  layout = layout_number b.layout;
}

abbrev pub no_c_builder : CBuilder
no_c_builder = record { columns = replicate 128 (builder_column_to no_builder_column); capacity = 0; limit = 0; len = 0; count = 0; layout = 0 }

-- to a caller who kept none: entries past the columns in use are zeros
abbrev pub builder_to : UnionBuilder → CBuilder
builder_to b = builder_into no_c_builder b

abbrev pub built : CBuilder → ℕ → CBuilt
built b n = record { builder = b; refusal = n }

abbrev pub made_to : Made → CBuilt
made_to r = built (builder_to r.builder) r.refusal

-- an append's; refused, the builder is handed back as it came
abbrev pub appended_to : CBuilder → Appended → CBuilt
appended_to c r = built (if_yes r.refusal (builder_into c r.builder) c) r.refusal

-- the builder is handed back as it came
abbrev pub length_to : CBuilder → Length → CLength
length_to c l = record { builder = c; len = l.len }

abbrev pub cloned_to : CBuilder → Finished → CFinished
cloned_to c f = record { builder = c; array = array_to f.array; refusal = f.refusal }

-- a finish's that leaves the builder as it came
abbrev pub kept_with : CBuilder → Slice → CFinished
kept_with c s = record { builder = c; array = array_to s.array; refusal = s.refusal }

-- an empty builder, or, refused, the builder as it came
abbrev pub finished_to : CBuilder → Finished → CFinished
finished_to c f = record { builder = if_yes f.refusal (builder_to f.builder) c; array = array_to f.array; refusal = f.refusal }

-- a finish's, of a builder with a number that names no case
abbrev pub not_finished : CBuilder → CFinished
not_finished b = record { builder = b; array = array_to no_array; refusal = bad_number }
