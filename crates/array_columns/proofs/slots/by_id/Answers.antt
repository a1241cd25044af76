use mathlib.Core.Path.{◌≡◌, refl}
use Prim.Native.Nat.{◌-◌}
use native.Mathlib.Omega.{arith}
use borrow.Author.Rules.{rules}
use lib.ListN.{length-set, get_or}
use Rattle.array_columns.specs.Types.{no_column}
use Rattle.array_columns.specs.Pass.{entry_of}
use Rattle.array_columns.proofs.Signed.{id_read}
use Rattle.array_columns.proofs.ById.{filled_none, filled_turn}
use Rattle.array_columns.proofs.slots.by_id.Goals as goal

pub loop-j-init : goal.loop-j-init
loop-j-init g c = (refl, filled_none _ c.args.rest c.args.columns.now)

pub loop-j-preserved : goal.loop-j-preserved
loop-j-preserved g c =
    let cs = c.args.columns.now in
    let same = id_read (get_or cs (c.loop-j.j - 1) no_column).id (search rules) in
    let entry : c.entry_of.result ≡ entry_of (get_or cs (c.loop-j.j - 1) no_column).id = rw same at c.entry_of.ensures.0 in (
      simp length-set c.loop-j.invariant.0,
      filled_turn _ c.args.rest cs c.loop-j.j c.loop-j.table c.entry_of.result c.value.result c.loop-j-test.true c.loop-j.auto.j c.loop-j.invariant.1 entry c.value.ensures,
    )

pub returns : goal.returns
returns g c =
    let first : c.loop-j.j ≡ 0 = omega arith in
    rw first at c.loop-j.invariant.1
