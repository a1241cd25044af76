use mathlib.Core.Path.{◌≡◌}
use lib.ListN.{replicate}
use Rattle.bitmap.specs.Lists.{retable}
use Rattle.builder_columns.specs.Columns.{nth_column}
use Rattle.batch_description.proofs.describe.sizes_of.Given as goal

abbrev pub invariant-loop-k : goal.invariant-loop-k
invariant-loop-k l = l.sizes ≡ retable l.k (λ j. (nth_column l.columns j).size) (replicate 128 0)
