use Rattle.std.proofs.Common.{◌≡◌, ◌∙◌, ap, ap₂, get_or, set, List}
use Rattle.union_array.specs.Types.{Sparse, Column, no_column}
use Rattle.union_array.specs.Slices.{moved_column}
use Rattle.union_array.proofs.Sliced.{map_at, map_more}
use Rattle.union_array.proofs.slices.move_columns.Goals as goal

pub loop-c-preserved : goal.loop-c-preserved
loop-c-preserved c =
    let l = c.args.columns.now in
    let j = c.loop-c.c-index in
    let f : Column → Column = moved_column Sparse c.args.o c.args.n in
    let own : get_or c.loop-c.columns j no_column ≡ get_or l j no_column = rw c.loop-c.invariant (map_at f no_column l j) in
    ap₂ (λ (cs : List Column) (d : Column). set cs j d) c.loop-c.invariant (c.move_column.ensures ∙ ap f own) ∙ map_more f no_column l j
