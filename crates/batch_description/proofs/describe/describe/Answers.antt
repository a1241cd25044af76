use mathlib.Core.Path.{◌≡◌, ◌∙◌}
use Prim.Native.Nat.{◌≤◌}
use native.Mathlib.Omega.{arith}
use lib.ListN.{length}
use lib.Seq.{length-take-le}
use Rattle.union_names.specs.Order.{order_of}
use Rattle.batch_description.specs.Filling.{sizes_of}
use Rattle.batch_description.proofs.Describing.{held, sizes_front, order_is, fillable, fillable_front, filled_front, describe_is}
use Rattle.batch_description.proofs.describe.describe.Goals as goal
use Rattle.batch_description.proofs.describe.describe.Goals.{After-order_of-order}

-- the order by the names of the columns in use
in_order : (c : After-order_of-order) → c.order_of-order.result ≡ order_of c.args.names.now (sizes_of c.args.columns.now c.args.h.count) c.args.h.count
in_order c =
    let a = c.args in
    let few : a.h.count ≤ length a.columns.now = omega (arith, c.requires.few) in
    order_is a.h a.columns.now a.names.now c.order_of-order.result c.requires.few
    (rw (c.sizes_of-sizes.ensures ∙ sizes_front a.h a.columns.now few) at c.order_of-order.ensures)

pub order_of-order-requires : goal.order_of-order-requires
order_of-order-requires c =
    let a = c.args in
    let few : a.h.count ≤ length a.columns.now = omega (arith, c.requires.few) in
    rw (c.sizes_of-sizes.ensures ∙ sizes_front a.h a.columns.now few) (held a.h a.columns.now a.names.now c.requires)

pub fill-requires : goal.fill-requires
fill-requires c =
    let a = c.args in
    let order = c.order_of-order.result in
    let few : a.h.count ≤ length order = omega (arith, c.requires.few) in (
      fillable_front a.h a.columns.now order (fillable a.h a.columns.now a.names.now order c.requires (in_order (goal.at.fill-requires c).After-order_of-order)),
      length-take-le a.h.count order few,
    )

pub returns : goal.returns
returns c =
    let a = c.args in
    let order = c.order_of-order.result in
    c.fill.ensures
    ∙ filled_front a.h a.columns.now order
    ∙ describe_is a.h a.columns.now a.names.now order c.requires.few (in_order (goal.at.returns c).After-order_of-order)
