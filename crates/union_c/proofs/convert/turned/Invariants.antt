use Rattle.std.proofs.Common.{◌≡◌, ◌≤◌, length}
use Rattle.union_c.specs.Numbers.{first_by}
use Rattle.union_c.proofs.convert.turned.Given as goal

abbrev pub invariant-loop-k : goal.invariant-loop-k
invariant-loop-k g l = record { within : l.k ≤ length l.entries; written : l.out ≡ first_by l.k g.to l.entries l.fn.rest }
