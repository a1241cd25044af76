use mathlib.Core.Path.{◌∙◌}
use mathlib.Core.Bool.{true, false}
use native.Mathlib.Omega.{arith}
use Rattle.null_strategy.proofs.Choosing.{no_field, one_field, no_nulls, all_null, by_cost, by_gathering, full_le}
use Rattle.null_strategy.proofs.routes.route_for.Goals as goal

pub returns-in-0 : goal.returns-in-0
returns-in-0 c =
    let p = c.args in λ m e. no_field p.array.now m p.gather p.fs.now e c.in-0.is

pub returns-in-1 : goal.returns-in-1
returns-in-1 c =
    let p = c.args in λ m e. one_field p.array.now m p.gather p.fs.now e true c.in-1.is c.if-array-offset0.true

pub returns-in-1-2 : goal.returns-in-1-2
returns-in-1-2 c =
    let p = c.args in λ m e. one_field p.array.now m p.gather p.fs.now e false c.in-1.is c.if-array-offset0.false

pub returns-in_default : goal.returns-in_default
returns-in_default c =
    let p = c.args in λ m e. no_nulls p.array.now m p.gather p.fs.now e (omega arith) c.if-fs-eq0.true

pub returns-in_default-2 : goal.returns-in_default-2
returns-in_default-2 c =
    let p = c.args in λ m e. all_null p.array.now m p.gather p.fs.now e (omega arith) c.if-fs-eq0.false c.if-fs-n.true

pub sparse_route-requires : goal.sparse_route-requires
sparse_route-requires c =
    (omega arith, full_le c.args.array.now c.args.fs.now c.requires)

pub returns-in-Sparse : goal.returns-in-Sparse
returns-in-Sparse c =
    let p = c.args in
    λ m e. c.sparse_route.ensures ∙ by_cost p.array.now m p.gather p.fs.now e (omega arith) c.if-fs-eq0.false c.if-fs-n.false c.in-Sparse.is

pub returns-in-Dense : goal.returns-in-Dense
returns-in-Dense c =
    let p = c.args in λ m e. by_gathering p.array.now m p.gather p.fs.now e (omega arith) c.if-fs-eq0.false c.if-fs-n.false c.in-Dense.is
