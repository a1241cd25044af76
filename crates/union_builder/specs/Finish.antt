-- len, finish_cloned and finish. A text in quotes is document 01's.
use Rattle.std.specs.Prelude.{ℕ, Result, Ok, Err}
use Rattle.union_array.specs.declared.UnionArray.{UnionArray}
use Rattle.array_columns.specs.declared.Layout.TheVariants.{Sparse}
use Rattle.union_array.specs.Types.{no_array}
use Rattle.array_columns.specs.Buffers.{Buffers, amounts_of}
use Rattle.array_columns.specs.Refusal.{if_yes, refusal_number}
use Rattle.array_columns.specs.declared.Refusal.{Refusal}
use Rattle.union_builder.specs.Builder.{UnionBuilder, empty, builder_checked, open_checked}
pub use Rattle.batch_description.specs.Description.{described_column, Named, insert, ordered, assembled, named_as}
pub use Rattle.union_builder.specs.declared.Length.{Length}
use Rattle.union_builder.specs.declared.Finished as code

-- len: "asks none"
abbrev pub len_of : UnionBuilder → Length
len_of b = record { builder = b; len = b.len }

-- column k with its name
abbrev pub named_column : UnionBuilder → Buffers → ℕ → Named
named_column b m k = named_as b.columns b.capacity m.names k

-- "finish_cloned describes the batch so far."
unfoldable pub describe : UnionBuilder → Buffers → UnionArray
describe b m = assembled b.layout b.len b.count (named_column b m)

-- what a finish answers, in document 01's numbers
pub record Finished : Type 0 where
  pub builder : UnionBuilder
  pub array : UnionArray
  pub refusal : ℕ

abbrev pub with_array : UnionBuilder → Result UnionArray Refusal → Finished
with_array b (Ok a) = record { builder = b; array = a; refusal = 0 }
with_array b (Err r) = record { builder = b; array = no_array; refusal = refusal_number r }

-- the code's answer: of each case, document 01's number and values
abbrev pub finished_told : code.Finished → Finished
finished_told f = with_array f.builder f.answer

-- a builder handed back, and the array so far of builder b, where n is the first no
abbrev pub finished_by : ℕ → UnionBuilder → UnionBuilder → Buffers → Finished
finished_by n after b m = record { builder = after; array = if_yes n (describe b m) no_array; refusal = n }

unfoldable pub finish_cloned_of : UnionBuilder → Buffers → Finished
finish_cloned_of b m = finished_by (builder_checked b (amounts_of m)) b b m

-- "finish does too, and hands back an empty sparse builder whatever the layout was (the Rust takes the default); C and K remain."
unfoldable pub finish_of : UnionBuilder → Buffers → Finished
finish_of b m =
    let n = open_checked b (amounts_of m) in
    finished_by n (if_yes n (empty Sparse b.capacity b.limit) b) b m
