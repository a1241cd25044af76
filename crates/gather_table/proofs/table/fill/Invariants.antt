-- The loop has stored the columns before it of those taken up. Assumes nothing.
use mathlib.Core.Path.{◌≡◌}
use lib.ListN.{length, take}
use Rattle.mask_words.specs.Steps.{columns_at}
use Rattle.gather_table.specs.Table.{table_of}
use Rattle.gather_table.proofs.table.fill.Given as goal

abbrev pub invariant-loop-place : goal.invariant-loop-place
invariant-loop-place l = record {
  long : length l.table ≡ 256;
  stored : l.table ≡ table_of (take l.place-index (columns_at l.columns l.places));
}
