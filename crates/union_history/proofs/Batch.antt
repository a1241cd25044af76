-- The batch so far, and what ties the builder and its memory to the log.
use mathlib.Core.List.{List}
use mathlib.Core.Path.{◌≡◌}
use Prim.Native.Nat.{◌*◌, ◌+◌, ◌<◌, ◌≤◌, ℕ}
use lib.IntN.{pos}
use lib.ListN.{get_or, length, take}
use Rattle.bitmap.specs.Bits.{bit_at, words_for}
use Rattle.array_columns.specs.Buffers.{Buffers}
use Rattle.union_array.specs.Slots.{is_some}
use Rattle.union_array.specs.Types.{low_bits, width_of}
use Rattle.array_columns.specs.declared.Layout.{Layout}
use Rattle.array_columns.specs.declared.Layout.TheVariants.{Dense, Sparse}
use Rattle.builder_columns.specs.declared.BuilderColumn.{BuilderColumn}
use Rattle.union_builder.specs.Append.{or_else}
use Rattle.union_builder.specs.Builder.{name_at, no_builder_column}
use Rattle.union_builder.specs.declared.UnionBuilder.{UnionBuilder}
use Rattle.union_history.specs.Claim.{State, built_column, count_of}
use Rattle.union_history.specs.Log.{Entry, Log, column_at, entry_at}

-- ---- the batch so far: the builder's layout, the log, and the builder's array of columns
pub record Batch : Type 0 where
  pub layout : Layout
  pub log : Log
  pub columns : List BuilderColumn

abbrev pub batch : Layout → Log → List BuilderColumn → Batch
batch l g cs = record { layout = l; log = g; columns = cs }

abbrev pub builder_of : Batch → UnionBuilder
builder_of t = record {
  columns = t.columns;
  capacity = t.log.capacity;
  limit = t.log.limit;
  len = length t.log.entries;
  count = length t.log.columns;
  layout = t.layout;
}

abbrev pub state_of : Batch → Buffers → State
state_of t m = record { builder = builder_of t; buffers = m }

-- ---- the memory holds the log
-- the slot of entry i in its column
abbrev pub own_slot : Layout → List Entry → ℕ → ℕ
own_slot Sparse es i = i
own_slot Dense es i = count_of (entry_at es i).id (take i es)

-- slot i of memory holds entry e, whose slot in its column is s
pub record Held (t : Batch) (m : Buffers) (i : ℕ) (e : Entry) (s : ℕ) : Type 0 where
  pub known : e.id < length t.log.columns
  pub is_name : (column_at t.log.columns e.id).name ≡ e.name
  pub is_kind : (column_at t.log.columns e.id).kind ≡ e.kind
  pub fits : s < t.log.capacity
  pub is_id : get_or m.ids i (pos 0) ≡ pos e.id
  pub is_off : t.layout ≡ Dense → get_or m.offsets i (pos 0) ≡ pos s
  pub word : get_or m.values (e.id * t.log.capacity + s) 0 ≡ or_else e.value 0
  pub low : low_bits (width_of e.kind) (or_else e.value 0) ≡ or_else e.value 0
  pub bit : bit_at m.masks (e.id * (64 * words_for t.log.capacity) + s) ≡ is_some e.value

-- its names and entries
pub record Holds (t : Batch) (m : Buffers) : Type 0 where
  pub name : (k : ℕ) → k < length t.log.columns → name_at m k (length (column_at t.log.columns k).name) ≡ (column_at t.log.columns k).name
  pub held : (i : ℕ) → i < length t.log.entries → Held t m i (entry_at t.log.entries i) (own_slot t.layout t.log.entries i)

-- ---- the builder is the log's
-- limits that the making fixed
pub record Limits (C K : ℕ) : Type 0 where
  pub some_slots : 1 ≤ C
  pub most_slots : C ≤ 65536
  pub some_room : 1 ≤ K
  pub most_room : K ≤ 128

pub record Counted (t : Batch) : Type 0 where
  pub limits : Limits t.log.capacity t.log.limit
  pub full : length t.columns ≡ 128
  pub len_fits : length t.log.entries ≤ t.log.capacity
  pub count_fits : length t.log.columns ≤ t.log.limit
  pub name_fits : (k : ℕ) → k < length t.log.columns → length (column_at t.log.columns k).name ≤ 32
  pub is_column : (k : ℕ) → k < length t.log.columns → get_or t.columns k no_builder_column ≡ built_column t.layout t.log k
  pub ids : (i : ℕ) → i < length t.log.entries → (entry_at t.log.entries i).id < length t.log.columns
  pub apart : (j k : ℕ) → j < length t.log.columns → k < length t.log.columns
      → (column_at t.log.columns j).name ≡ (column_at t.log.columns k).name → j ≡ k
