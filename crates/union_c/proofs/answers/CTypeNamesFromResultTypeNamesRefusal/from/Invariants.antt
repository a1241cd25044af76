use Rattle.union_c.specs.Arrays.{name_to}
use Rattle.union_c.proofs.answers.CTypeNamesFromResultTypeNamesRefusal.from.Given as goal

abbrev pub ghost-turned : goal.ghost-turned
ghost-turned a = name_to
