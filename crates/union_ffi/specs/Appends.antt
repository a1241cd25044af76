-- A run of readings appended in order, in one call, at the boundary.
use Rattle.std.specs.Prelude.{List, ℕ}
use Rattle.array_columns.specs.Buffers.{Buffers}
use Rattle.array_columns.specs.Numbers.{bad_number}
use Rattle.union_builder.specs.Appends.{Readings, RunOutcome, appends_of}
use Rattle.union_c.specs.declared.CBuilder.{CBuilder}
use Rattle.union_c.specs.declared.CBuilt.{CBuilt}
use Rattle.union_c.specs.Builders.{is_builder, builder_from, built, appended_to}
use Rattle.union_ffi.specs.Boundary.{at_boundary}

-- the answer, lent memory and the numbers at exit
pub record CAppends : Type 0 where
  pub answer : CBuilt
  pub buffers : Buffers
  pub refusals : List ℕ

abbrev pub c_appended : CBuilt → Buffers → List ℕ → CAppends
c_appended answer buffers refusals = record { answer = answer; buffers = buffers; refusals = refusals }

abbrev pub appends_to : CBuilder → RunOutcome → CAppends
appends_to c o = c_appended (appended_to c o.answer) o.buffers o.refusals

-- all readings in order; refused, by 128 or then by 129, nothing is changed and the builder is handed back as it came
unfoldable pub c_appends : CBuilder → Buffers → Readings → List ℕ → CAppends
c_appends b m r refusals = at_boundary (is_builder b) (appends_to b (appends_of (builder_from b) m r refusals)) (c_appended (built b bad_number) m refusals)
