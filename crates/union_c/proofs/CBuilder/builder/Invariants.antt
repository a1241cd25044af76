use Rattle.union_c.specs.Builders.{builder_column_from}
use Rattle.union_c.proofs.CBuilder.builder.Given as goal

abbrev pub ghost-turned : goal.ghost-turned
ghost-turned a = builder_column_from
