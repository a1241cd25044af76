use native.Mathlib.Omega.{arith}
use Rattle.union_text.proofs.ValueLaws.{value_room}
use Rattle.union_text.proofs.value_text.value_text.Goals as goal

pub write_integer-requires : goal.write_integer-requires
write_integer-requires c =
    let a = c.args in
    (value_room a.kind _ _ a.bits _ c.from.ensures c.in-Integers.is c.low_bits-low.ensures, omega (arith, c.requires))

pub write_float-requires : goal.write_float-requires
write_float-requires c =
    let a = c.args in
    (value_room a.kind _ _ a.bits _ c.from.ensures c.in-Floats.is c.low_bits-low.ensures, omega (arith, c.requires))
