use mathlib.Core.Path.{◌≡◌}
use Rattle.array_columns.specs.Buffers.{held, Same}
use Rattle.builder_columns.specs.Columns.{given}
use Rattle.builder_columns.specs.Puts.{row}
use Rattle.builder_columns.specs.Writing.{put_words}
use Rattle.builder_columns.proofs.slots.put_row.Given as goal

abbrev pub invariant-loop-k : goal.invariant-loop-k
invariant-loop-k l = Same l.lent l.initial.lent × (held l.lent ≡ put_words l.capacity (held l.initial.lent) (row l.k l.slot l.id (given l.value)))
