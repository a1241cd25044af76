-- No column before has the name.
use mathlib.Core.Path.{◌≡◌}
use mathlib.Core.Option.{none}
use Rattle.bitmap.specs.Lists.{first_of}
use Rattle.builder_columns.specs.Columns.{has_name}
use Rattle.builder_columns.proofs.find.look.Given as goal

abbrev pub invariant-loop-id : goal.invariant-loop-id
invariant-loop-id l = first_of l.id (has_name l.columns l.names l.name) ≡ none
