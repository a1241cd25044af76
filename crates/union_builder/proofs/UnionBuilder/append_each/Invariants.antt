-- The readings before k are appended, and the builder is open as at first.
use Rattle.array_columns.specs.Buffers.{held, Same}
use Rattle.array_columns.specs.Refusal.{number_of}
use Rattle.union_builder.specs.Appends.{run_outcome}
use Rattle.union_builder.proofs.Readings.{Run}
use Rattle.union_builder.proofs.UnionBuilder.append_each.Given as goal

abbrev pub invariant-loop-k : goal.invariant-loop-k
invariant-loop-k l =
    Same l.lent l.initial.lent
    × Run l.readings (number_of l.checked) l.k (run_outcome (record { builder = l.initial.self; refusal = 0 }) (held l.initial.lent) l.initial.refusals) l.self (held l.lent) l.refusals
