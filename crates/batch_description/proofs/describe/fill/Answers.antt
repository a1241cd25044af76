use mathlib.Core.Path.{◌≡◌, ap, ◌∙◌}
use Prim.Native.Nat.{◌<◌}
use native.Mathlib.Omega.{arith}
use lib.ListN.{get_or}
use Rattle.batch_description.specs.Filling.{filled_of}
use Rattle.batch_description.proofs.Describing.{fill_none, fill_turn}
use Rattle.batch_description.proofs.describe.fill.Goals as goal
use Rattle.batch_description.proofs.describe.fill.Goals.{In-loop-i}

next_in : (c : In-loop-i) → get_or c.args.order.now c.loop-i.i 0 < c.args.h.count
next_in c = c.requires.0.ids c.loop-i.i (omega (arith, c.requires.1))

pub loop-i-init : goal.loop-i-init
loop-i-init c =
    c.blank-out.ensures ∙ fill_none c.args.h c.args.columns.now c.args.order.now

pub bounds-columns-k : goal.bounds-columns-k
bounds-columns-k c =
    omega (arith, next_in (goal.at.bounds-columns-k c).In-loop-i, c.requires.0.few)

pub described_column-requires : goal.described_column-requires
described_column-requires c =
    (omega (arith, next_in (goal.at.described_column-requires c).In-loop-i, c.requires.0.few), c.requires.0.small)

pub loop-i-preserved : goal.loop-i-preserved
loop-i-preserved c =
    fill_turn c.args.h c.args.columns.now c.args.order.now c.loop-i.i c.loop-i.out c.described_column.result (omega (arith, c.requires.0.few, c.requires.1)) c.loop-i.invariant
    c.described_column.ensures

pub returns : goal.returns
returns c =
    let a = c.args in
    let all : c.loop-i.i ≡ a.h.count = omega (arith, c.requires.1) in
    c.loop-i.invariant ∙ ap (filled_of a.h a.columns.now a.order.now) all
