use Rattle.std.proofs.Common.{◌≡◌, ◌++◌, map, take, drop}
use Rattle.union_text.specs.Printable.{printed}
use Rattle.union_text.proofs.printable.put_printable.Given as goal

abbrev pub invariant-loop-b : goal.invariant-loop-b
invariant-loop-b l = l.part ≡ map printed (take l.b-index l.name) ++ drop l.b-index l.name
