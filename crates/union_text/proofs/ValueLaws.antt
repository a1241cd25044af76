-- Values as text: the room that a kind's numbers have, and the lengths of their texts. Assumes nothing.
use mathlib.Core.Path.{◌≡◌, refl, sym}
use mathlib.Core.List.{List}
use Prim.Native.Nat.{ℕ, ◌+◌, ◌*◌, ◌^◌, ◌≤◌, ◌<◌}
use native.Mathlib.Nat.{mod-lt}
use native.Mathlib.Omega.{arith}
use borrow.Author.Tests.{leb-true}
use lib.Dec.{leb}
use Rattle.decimal.proofs.TextLaws.{integer_size}
use Rattle.decimal_float.specs.Floats.{sign_weight}
use Rattle.array_columns.specs.declared.Kind.{Kind}
use Rattle.union_array.specs.Types.{width_of, low_bits}
use Rattle.array_columns.proofs.KindLaws.{every_kind}
use Rattle.union_text.specs.declared.Values.{Values}
use Rattle.union_text.specs.declared.Values.TheVariants.{Integers, Floats}
use Rattle.union_text.specs.Values.{values_of, Told}

-- how many numbers the writer takes
abbrev room : Values → ℕ
room (Integers lowest highest) = 2 * highest + 2
room (Floats f) = 2 * sign_weight f

low_room : (k : Kind) (x : ℕ) → low_bits (width_of k) x < room (values_of k)
unfolding low_bits
low_room k x =
    let some = leb-true 1 (2 ^ width_of k) (every_kind (λ j. leb 1 (2 ^ width_of j)) refl k) in
    let most = leb-true (2 ^ width_of k) (room (values_of k)) (every_kind (λ j. leb (2 ^ width_of j) (room (values_of j))) refl k) in
    omega (arith, mod-lt x some)

-- in the code's own terms: `values` are those of the kind, seen to be `seen`, and `low` the bits
module _ (k : Kind) (values seen : Values) (x low : ℕ) (of : values ≡ values_of k) (is : values ≡ seen) (cut : low ≡ low_bits (width_of k) x) where
  pub value_room : low < room seen
  value_room = rw (cut, sym is, of) (low_room k x)

-- a value's text has at most 37 bytes
pub told_size : (v : Values) (bits : ℕ) (was now : List ℕ) (size : ℕ) → Told v bits was now size → size ≤ 37
told_size (Integers lowest highest) bits was now size e = omega (arith, integer_size bits highest was now size e)
told_size (Floats f) bits was now size e = e.0
