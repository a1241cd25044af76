-- Names as they are printed: a byte by its tests. Assumes nothing.
use mathlib.Core.Path.{◌≡◌}
use Prim.Native.Nat.{ℕ, ◌≤◌, ◌<◌}
use borrow.Author.Tests.{lt-ltb, le-ltb, eq-eqb, ne_eqb}
use Rattle.union_text.specs.Printable.{printed}

-- below 32 and 127 as ? (63), any other byte as it is
pub printed_low : (b : ℕ) → b < 32 → 63 ≡ printed b
unfolding printed
printed_low b h = rw (lt-ltb b 32 h)

pub printed_delete : (b : ℕ) → 32 ≤ b → b ≡ 127 → 63 ≡ printed b
unfolding printed
printed_delete b h e = rw (le-ltb b 32 h, eq-eqb b 127 e)

pub printed-plain : (b : ℕ) → 32 ≤ b → (b ≡ 127 → ⊥) → b ≡ printed b
unfolding printed
printed-plain b h e = rw (le-ltb b 32 h, ne_eqb b 127 e)
