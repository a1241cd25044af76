-- No slot before k is refused.
use Rattle.std.proofs.Common.{◌≡◌, ◌+◌}
use Rattle.array_slots.specs.Slots.{slot_no}
use Rattle.array_slots.specs.Values.{first_refusal}
use Rattle.array_slots.proofs.run.Slots.check.Given as goal

abbrev pub invariant-loop-k : goal.invariant-loop-k
invariant-loop-k l = let s = l.self in first_refusal l.k (λ j. slot_no s.head s.columns.now s.lent.now.ids s.lent.now.offsets (s.first + j)) ≡ 0
