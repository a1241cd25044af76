use mathlib.Core.Path.{◌≡◌, ap, ◌∙◌}
use Prim.Native.Nat.{◌<◌}
use native.Mathlib.Omega.{arith}
use lib.ListN.{length}
use Rattle.union_builder.specs.Growing.{row_after}
use Rattle.union_builder.proofs.Growing.{row_none, row_turn, row_still}
use Rattle.union_builder.proofs.appends.grow_row.Goals as goal

pub loop-k-init : goal.loop-k-init
loop-k-init c = row_none c.args.columns.now c.args.s.now

pub row_column-requires : goal.row_column-requires
row_column-requires c =
    let l = c.loop-k in
    let below : l.k < length c.args.columns.now = omega arith in
    rw (row_still c.args.columns.now l.columns c.args.s.now l.k l.invariant) (c.requires l.k below)

pub loop-k-preserved : goal.loop-k-preserved
loop-k-preserved c =
    let l = c.loop-k in
    let below : l.k < length c.args.columns.now = omega arith in
    row_turn c.args.columns.now l.columns c.args.s.now l.k c.row_column.result below l.invariant c.row_column.ensures

pub returns : goal.returns
returns c =
    let l = c.loop-k in
    let all : l.k ≡ length c.args.columns.now = omega arith in
    l.invariant ∙ ap (row_after c.args.columns.now c.args.s.now) all
