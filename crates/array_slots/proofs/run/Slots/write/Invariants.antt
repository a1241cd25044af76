-- The outputs have the slots before k.
use Rattle.std.proofs.Common.{◌≡◌, ◌+◌}
use Rattle.bitmap.specs.Lists.{retable}
use Rattle.bitmap.specs.Bits.{digit}
use Rattle.array_slots.specs.Values.{slot_value_at}
use Rattle.array_slots.proofs.run.Slots.write.Given as goal

abbrev pub invariant-loop-k : goal.invariant-loop-k
invariant-loop-k l =
    let s = l.self in
    (l.missing ≡ retable l.k (λ j. digit (slot_value_at s.head s.columns.now s.lent.now (s.first + j)).missing) l.initial.missing)
    × (l.bits ≡ retable l.k (λ j. (slot_value_at s.head s.columns.now s.lent.now (s.first + j)).bits) l.initial.bits)
