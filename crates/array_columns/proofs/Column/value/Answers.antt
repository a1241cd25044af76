use native.Mathlib.Omega.{arith}
use Rattle.std.proofs.lemmas.Grind.{common_steps}
use Rattle.array_columns.proofs.Values.{name_short, name_in}
use Rattle.array_columns.proofs.Present.{in_child}
use Rattle.array_columns.proofs.Column.value.Goals as goal

pub slot_value-requires : goal.slot_value-requires
slot_value-requires c = in_child c.args.self.now c.args.lent.now c.args.p c.requires.0 c.requires.1

pub slice_bounds-padded-end-2 : goal.slice_bounds-padded-end-2
slice_bounds-padded-end-2 c =
    let h = name_in c.args.lent.now c.args.self.now c.requires.1 in
    grind (arith, common_steps, h)

pub padded-requires : goal.padded-requires
padded-requires c =
    let h = name_short c.args.lent.now c.args.self.now c.requires.1 in
    let k = name_in c.args.lent.now c.args.self.now c.requires.1 in
    grind (arith, common_steps, h, k)
