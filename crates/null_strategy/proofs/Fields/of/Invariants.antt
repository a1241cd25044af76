-- The loop has told the states of the columns before q, and counted them. Assumes nothing.
use mathlib.Core.Path.{◌≡◌}
use lib.ListN.{take}
use Rattle.bitmap.specs.Lists.{retable}
use Rattle.null_strategy.specs.Route.{how_many, has_null, fully_null}
use Rattle.null_strategy.specs.Fields.{state_at, no_states}
use Rattle.null_strategy.proofs.Fields.of.Given as goal

abbrev pub invariant-loop-q : goal.invariant-loop-q
invariant-loop-q l = record {
  count : l.fs.count ≡ l.array.fields;
  states : l.fs.states ≡ retable l.q (state_at l.lent l.array.columns) no_states;
  some : l.fs.some ≡ how_many (has_null l.lent) (take l.q l.array.columns);
  full : l.fs.full ≡ how_many (fully_null l.lent) (take l.q l.array.columns);
}
