use Rattle.std.proofs.Common.{◌≡◌}
use Rattle.union_names.specs.Order.{order_of}
use Rattle.union_names.proofs.order.order_of.Given as goal

abbrev pub invariant-loop-k : goal.invariant-loop-k
invariant-loop-k l = l.order ≡ order_of l.names l.sizes l.k
