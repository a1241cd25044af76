-- The names of the columns so far are filled in.
use Rattle.std.proofs.Common.{◌≡◌}
use Rattle.union_array.proofs.Lookups.{names_to}
use Rattle.union_array.proofs.fields.names_of.Given as goal

abbrev pub invariant-loop-j : goal.invariant-loop-j
invariant-loop-j l = l.names ≡ names_to l.columns l.j
