use mathlib.Core.Path.{◌≡◌, refl, sym, ap, ◌∙◌}
use mathlib.Core.List.{List}
use Prim.Native.Nat.{ℕ}
use native.Mathlib.Omega.{arith}
use lib.ListN.{length, replicate, set}
use Rattle.bitmap.specs.Lists.{retable}
use Rattle.bitmap.proofs.Tables.{retable_turn, retable_none}
use Rattle.builder_columns.specs.Columns.{nth_column}
use Rattle.batch_description.specs.Filling.{sizes_of}
use Rattle.batch_description.proofs.describe.sizes_of.Goals as goal

pub loop-k-init : goal.loop-k-init
loop-k-init c =
    sym (retable_none _ _)

pub loop-k-preserved : goal.loop-k-preserved
loop-k-preserved c =
    let cs = c.args.columns.now in
    let k = c.loop-k.k in
    ap (λ (s : List ℕ). set s k (nth_column cs k).size) c.loop-k.invariant
    ∙ retable_turn (λ j. (nth_column cs j).size) (replicate 128 0) k (nth_column cs k).size refl (omega arith)

pub returns : goal.returns
unfolding sizes_of
returns c =
    let cs = c.args.columns.now in
    let all : c.loop-k.k ≡ length cs = omega arith in
    c.loop-k.invariant ∙ ap (λ (n : ℕ). retable n (λ j. (nth_column cs j).size) (replicate 128 0)) all
