-- The first no of 15, in its two parts, and 16. Assumes nothing.
use mathlib.Core.Path.{◌≡◌, sym, ◌∙◌}
use mathlib.Core.Bool.{true, false}
use Prim.Native.Nat.{◌≤◌}
use native.Mathlib.Omega.{arith}
use lib.ListN.{length}
use Rattle.bitmap.specs.Lists.{every}
use Rattle.union_builder.specs.Builder.{column_fits}
use Rattle.builder_appends.specs.Questions.{numbers_fit}
use Rattle.builder_appends.proofs.Asking.{numbers_yes}
use Rattle.union_builder.proofs.Asking.{fits_front, no-numbers, no_columns, then_lent}
use Rattle.union_builder.proofs.UnionBuilder.check.Goals as goal
use Rattle.union_builder.proofs.UnionBuilder.check.Goals.{After-columns_fit}

numbers : (c : After-columns_fit) → let b = c.args.self.now in numbers_fit b.capacity b.limit b.len b.count ≡ true
numbers c = sym c.numbers_fit.ensures ∙ c.if-not-numbers_fit.false

columns : (c : After-columns_fit) → c.columns_fit.result ≡ every c.args.self.now.count (column_fits c.args.self.now)
columns c =
    let b = c.args.self.now in
    let n = numbers_yes b.capacity b.limit b.len b.count (numbers c) in
    let few : b.count ≤ length b.columns = omega arith in
    c.columns_fit.ensures ∙ fits_front b few

pub returns-then-not-numbers_fit : goal.returns-then-not-numbers_fit
returns-then-not-numbers_fit c = no-numbers c.args.self.now c.args.lent.now (sym c.numbers_fit.ensures ∙ c.if-not-numbers_fit.true)

pub shared_ref_as_front-columns_fit : goal.shared_ref_as_front-columns_fit
shared_ref_as_front-columns_fit c =
    let b = c.args.self.now in
    let n = numbers_yes b.capacity b.limit b.len b.count (sym c.numbers_fit.ensures ∙ c.if-not-numbers_fit.false) in
    omega arith

pub returns-then-not-columns_fit : goal.returns-then-not-columns_fit
returns-then-not-columns_fit c =
    let p = (goal.at.returns-then-not-columns_fit c).After-columns_fit in
    no_columns c.args.self.now c.args.lent.now (numbers p) (sym (columns p) ∙ c.if-not-columns_fit.true)

pub lent_fits-requires : goal.lent_fits-requires
lent_fits-requires c =
    let b = c.args.self.now in
    let n = numbers_yes b.capacity b.limit b.len b.count (numbers (goal.at.lent_fits-requires c).After-columns_fit) in
    (omega arith, omega arith)

pub returns-then-not-lent_fits : goal.returns-then-not-lent_fits
returns-then-not-lent_fits c =
    let p = (goal.at.returns-then-not-lent_fits c).After-columns_fit in
    then_lent c.args.self.now c.args.lent.now false (numbers p) (sym (columns p) ∙ c.if-not-columns_fit.false) (sym c.lent_fits.ensures ∙ c.if-not-lent_fits.true)

pub returns : goal.returns
returns c =
    let p = (goal.at.returns c).After-columns_fit in
    then_lent c.args.self.now c.args.lent.now true (numbers p) (sym (columns p) ∙ c.if-not-columns_fit.false) (sym c.lent_fits.ensures ∙ c.if-not-lent_fits.false)
