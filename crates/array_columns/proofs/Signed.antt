-- A signed number that fits, read again from its bits. Assumes nothing.
use mathlib.Core.Path.{◌≡◌}
use Prim.Native.Nat.{◌<◌}
use lib.IntN.{ℤ}
use lib.Signed.{mag}
use mir.Syntax.{w8, w32}
use mir.Val.{of_z, to_z}
use mir.Facts.{to_z-of_z}

-- a type id that fits, read again from its bits
pub id_read : (z : ℤ) → mag z < 128 → to_z w8 (of_z w8 z) ≡ z
id_read z h = to_z-of_z {w = w8} {z = z} (record { sfits = h })

-- an offset that fits, read again from its bits
pub offset_read : (z : ℤ) (m : mag z < 2147483648) → to_z w32 (of_z w32 z) ≡ z
offset_read z m = to_z-of_z {w = w32} (record { sfits = m })
