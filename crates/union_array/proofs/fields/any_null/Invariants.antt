-- The columns so far have no null.
use Rattle.std.proofs.Common.{◌≡◌, true, eqb, take}
use Rattle.union_array.specs.Slots.{all, nulls_in}
use Rattle.union_array.proofs.fields.any_null.Given as goal

abbrev pub invariant-loop-c : goal.invariant-loop-c
invariant-loop-c l = all (λ c. eqb (nulls_in c l.lent) 0) (take l.c-index l.columns) ≡ true
