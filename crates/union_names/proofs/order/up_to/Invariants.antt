use Rattle.std.proofs.Common.{◌≡◌}
use Rattle.union_names.specs.Names.{name_up_to}
use Rattle.union_names.proofs.order.up_to.Given as goal

abbrev pub invariant-loop-byte : goal.invariant-loop-byte
invariant-loop-byte l = name_up_to l.x l.y ≡ name_up_to l.fn.x l.fn.y
