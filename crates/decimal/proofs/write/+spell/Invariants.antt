use Rattle.std.proofs.Common.{length}
use Rattle.decimal.proofs.write.+spell.Given as goal

abbrev pub decreases-spell : goal.decreases-spell
decreases-spell l = length l.out.now
