-- `by_id` meets its contract: the table is that of the columns from place j on.
use mathlib.Core.Path.{◌≡◌}
use lib.ListN.{length, drop}
use Rattle.array_columns.specs.ById.{IsById}
use Rattle.array_columns.proofs.slots.by_id.Given as goal

abbrev pub invariant-loop-j : goal.invariant-loop-j
invariant-loop-j g l = (length l.table ≡ 256) × IsById (goal.F-post g l.value) l.fn.rest l.j (drop l.j l.columns) l.table
