use Rattle.union_c.specs.Builders.{builder_column_to}
use Rattle.union_c.proofs.CBuilder.holding.Given as goal

abbrev pub ghost-turned : goal.ghost-turned
ghost-turned a = builder_column_to
