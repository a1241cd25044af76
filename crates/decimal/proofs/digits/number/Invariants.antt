use Rattle.std.proofs.Common.{◌≡◌, ◌≤◌, drop}
use Rattle.decimal.specs.Digits.{number_of}
use Rattle.decimal.proofs.digits.number.Given as goal

abbrev pub invariant-loop-b : goal.invariant-loop-b
invariant-loop-b l =
    (l.n ≤ l.most) × (number_of l.base l.start l.text l.most ≡ number_of l.base l.n (drop l.b-index l.text) l.most)
