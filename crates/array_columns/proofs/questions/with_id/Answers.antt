use Rattle.std.proofs.Common.{rules, tests}
use Rattle.std.proofs.lemmas.Iterator.{YieldsList-from_slice}
use Rattle.std.proofs.lemmas.Iterator.Search.{find_from_yields_List}
use Rattle.bitmap.specs.Bits.{same_id}
use Rattle.array_columns.proofs.Columns.{column_found}
use Rattle.array_columns.proofs.questions.with_id.Goals as goal

pub returns : goal.returns
unfolding same_id
returns c =
    let cs = c.args.columns.now in
    let e = find_from_yields_List (λ x. same_id x.id c.args.id) _ _ c.find.result c.find.ensures.ran (YieldsList-from_slice cs cc) (λ x b q k. search (rules, tests)) in
    column_found cs c.args.id c.find.result c.copied.result c.copied.ensures e
