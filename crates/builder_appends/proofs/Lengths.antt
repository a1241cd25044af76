-- The lengths of a run. Assumes nothing.
use mathlib.Core.Bool.{true}
use mathlib.Core.Path.{◌≡◌}
use Prim.Native.Nat.{ℕ, ◌<◌, ◌≤◌}
use native.Mathlib.Omega.{arith}
use lib.Dec.{eqb, leb}
use lib.ListN.{length}
use borrow.Author.Tests.{leb-true, eqb-true}
use Rattle.bitmap.proofs.Tables.{both}
use Rattle.builder_appends.specs.Readings.{Readings, lengths_match, Within}

-- each reading is there where the lengths match
pub within : (r : Readings) (lent : ℕ) → lengths_match r lent ≡ true → (k : ℕ) → k < length r.starts
    → Within r k
unfolding lengths_match
within r lent e k h =
    let n = length r.starts in
    let a = both (eqb (length r.sizes) n) _ e in
    let b = both (eqb (length r.kinds) n) _ a.1 in
    let c = both (eqb (length r.present) n) _ b.1 in
    let d = both (eqb (length r.bits) n) (leb n lent) c.1 in
    let es = eqb-true (length r.sizes) n a.0 in
    let ek = eqb-true (length r.kinds) n b.0 in
    let ep = eqb-true (length r.present) n c.0 in
    let eb = eqb-true (length r.bits) n d.0 in
    record { starts = h; sizes = omega (arith, es); kinds = omega (arith, ek); present = omega (arith, ep); bits = omega (arith, eb) }

-- and there is room for each number
pub run_room : (r : Readings) (lent : ℕ) → lengths_match r lent ≡ true → length r.starts ≤ lent
unfolding lengths_match
run_room r lent e =
    let n = length r.starts in
    let a = both (eqb (length r.sizes) n) _ e in
    let b = both (eqb (length r.kinds) n) _ a.1 in
    let c = both (eqb (length r.present) n) _ b.1 in
    leb-true n lent (both (eqb (length r.bits) n) (leb n lent) c.1).1
