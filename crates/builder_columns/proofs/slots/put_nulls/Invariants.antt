use mathlib.Core.Path.{◌≡◌}
use mathlib.Core.Option.{none}
use Rattle.array_columns.specs.Buffers.{held, Same}
use Rattle.builder_columns.specs.Puts.{filled}
use Rattle.builder_columns.specs.Writing.{put_words}
use Rattle.builder_columns.proofs.slots.put_nulls.Given as goal

abbrev pub invariant-loop-slot : goal.invariant-loop-slot
invariant-loop-slot l = Same l.lent l.initial.lent × (held l.lent ≡ put_words l.capacity (held l.initial.lent) (filled none l.k l.slot))
