-- The columns before have their slot.
use mathlib.Core.Path.{◌≡◌}
use Rattle.union_builder.specs.Growing.{row_after}
use Rattle.union_builder.proofs.appends.grow_row.Given as goal

abbrev pub invariant-loop-k : goal.invariant-loop-k
invariant-loop-k l = l.columns ≡ row_after l.initial.columns l.s l.k
