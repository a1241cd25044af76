-- As much is lent after the writes. Assumes nothing.
use mathlib.Core.Path.{ap, ◌∙◌}
use Rattle.array_columns.specs.Buffers.{amounts_of, held}
use Rattle.builder_columns.specs.Columns.{given}
use Rattle.builder_columns.proofs.Putting.{written_kept}
use Rattle.builder_appends.proofs.steps.carry_out.Goals as goal

pub returns-clause-amounts : goal.returns-clause-amounts
returns-clause-amounts c =
    let a = c.args in
    let w = rw c.in_ok-p.was at c.requires in
    ap amounts_of c.store.ensures.after ∙ written_kept a.h c.in_ok-p.p (held a.lent.now) a.name.now (given a.value) w.0
