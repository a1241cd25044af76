use Rattle.std.proofs.Common.{◌-◌}
use Rattle.decimal_float.proofs.DivisionLaws.{Turned}
use Rattle.decimal_float.proofs.rounding.divided.Given as goal

abbrev pub invariant-loop-whole : goal.invariant-loop-whole
invariant-loop-whole l = Turned l.m l.d l.whole l.rest l.steps

abbrev pub decreases-loop-whole : goal.decreases-loop-whole
decreases-loop-whole l = 113 - l.steps
