use Rattle.union_c.specs.Arrays.{column_from}
use Rattle.union_c.proofs.CArray.array.Given as goal

abbrev pub ghost-turned : goal.ghost-turned
ghost-turned a = column_from
