-- The slot lies in the room of its column.
use mathlib.Core.Path.{ap}
use native.Mathlib.Omega.{arith}
use Prim.Native.Nat.{ℕ, ◌*◌}
use Rattle.builder_columns.proofs.Putting.{bit_in}
use Rattle.builder_columns.proofs.slots.put_slot.Goals as goal

pub set_bit-requires : goal.set_bit-requires
set_bit-requires c =
    let a = c.args in
    omega (arith, ap (λ (w : ℕ). a.k * w) c.words_for.ensures, bit_in _ _ _ _ c.requires.0 a.slot c.requires.1)
