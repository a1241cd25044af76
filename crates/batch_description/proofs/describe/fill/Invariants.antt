use mathlib.Core.Path.{◌≡◌}
use Rattle.batch_description.specs.Filling.{filled_of}
use Rattle.batch_description.proofs.describe.fill.Given as goal

abbrev pub invariant-loop-i : goal.invariant-loop-i
invariant-loop-i l = l.out ≡ filled_of l.h l.columns l.order l.i
