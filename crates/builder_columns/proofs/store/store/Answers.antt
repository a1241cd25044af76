-- The id, the offset and the name are stored before the slots. Assumes nothing.
use mathlib.Core.Path.{ap, ◌∙◌}
use native.Mathlib.Omega.{arith}
use Prim.Native.Nat.{◌<◌}
use lib.IntN.{ℤ}
use lib.ListN.{set}
use mir.Syntax.{w8}
use Rattle.std.proofs.Math.Facts.{to_z_pos}
use Rattle.array_columns.specs.Buffers.{held}
use Rattle.builder_columns.proofs.Putting.{written_is}
use Rattle.builder_columns.proofs.store.store.Goals as goal

pub returns-clause-after : goal.returns-clause-after
returns-clause-after c =
    let a = c.args in
    let m = held a.lent.now in
    let r = c.requires in
    let small : a.p.id < 128 = let u = r.used in let f = r.room.few in omega arith in
    c.put_slots.ensures.after
    ∙ written_is a.h a.p m a.name.now _ _ _ _ (ap (λ (x : ℤ). set m.ids a.h.len x) (to_z_pos w8 small)) c.put_offset.ensures c.put_new_name.ensures
