-- The columns so far are moved.
use Rattle.std.proofs.Common.{◌≡◌}
use Rattle.union_array.specs.Types.{Sparse, no_column}
use Rattle.union_array.specs.Slices.{moved_column}
use Rattle.union_array.proofs.Sliced.{map_to}
use Rattle.union_array.proofs.slices.move_columns.Given as goal

abbrev pub invariant-loop-c : goal.invariant-loop-c
invariant-loop-c l = l.columns ≡ map_to (moved_column Sparse l.o l.n) no_column l.c-index l.initial.columns
