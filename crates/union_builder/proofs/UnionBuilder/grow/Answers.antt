use mathlib.Core.Path.{◌≡◌, ap, ◌∙◌}
use mathlib.Core.List.{List, ◌++◌}
use Prim.Native.Nat.{◌≤◌, ◌<◌}
use native.Mathlib.Omega.{arith}
use lib.ListN.{length, drop, set, length-set}
use lib.Seq.{length-take-le, get_or-take}
use Rattle.builder_columns.specs.declared.BuilderColumn.{BuilderColumn}
use Rattle.union_builder.specs.Builder.{no_builder_column, builder_with}
use Rattle.union_builder.specs.Growing.{grown_by_step}
use Rattle.union_builder.proofs.Growing.{row_short, row_front}
use Rattle.union_builder.proofs.UnionBuilder.grow.Goals as goal

pub grow_row-requires : goal.grow_row-requires
grow_row-requires c =
    let s = c.args.s.now in
    let cs = set c.args.self.now.columns s.id s.column in
    let full : length c.args.self.now.columns ≡ 128 = omega arith in
    let few : s.rows ≤ length cs = omega (arith, length-set c.args.self.now.columns s.id s.column, c.requires.few) in
    λ k h.
    let below : k < s.rows = omega (arith, length-take-le s.rows cs few) in
    rw (get_or-take s.rows cs k no_builder_column below) (row_short c.args.self.now.columns s full c.requires k below)

pub returns : goal.returns
unfolding grown_by_step
returns c =
    let b = c.args.self.now in
    let s = c.args.s.now in
    let cs = set b.columns s.id s.column in
    let few : s.rows ≤ length cs = omega (arith, length-set b.columns s.id s.column, c.requires.few) in
    ap (λ (l : List BuilderColumn). builder_with b l s.len s.count)
    (ap (λ (l : List BuilderColumn). l ++ drop s.rows cs) c.grow_row.ensures ∙ row_front cs s s.rows few)
