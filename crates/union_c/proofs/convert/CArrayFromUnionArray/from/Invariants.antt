use Rattle.union_c.specs.Arrays.{column_to}
use Rattle.union_c.proofs.convert.CArrayFromUnionArray.from.Given as goal

abbrev pub ghost-turned : goal.ghost-turned
ghost-turned a = column_to
