use Rattle.std.proofs.Common.{◌<◌, length, ap, ◌∙◌, get_or, set, arith}
use Rattle.std.proofs.lemmas.List.{get_or_default}
use Rattle.std.proofs.lemmas.List.Edits.{map_over_more}
use Rattle.union_text.specs.Printable.{printed}
use Rattle.union_text.proofs.printable.put_printable.Goals as goal

pub loop-b-preserved : goal.loop-b-preserved
loop-b-preserved c =
    let i = c.loop-b.b-index in
    let part = c.loop-b.part in
    let within : i < length part = omega arith in
    let same = ap length c.copy_from_slice.ensures.after in
    ap (set part i) c.printable.ensures ∙ map_over_more printed c.args.name.now part i _ (omega arith) c.loop-b.invariant (get_or_default part i 0 (get_or part i 0) within)
