-- No refusal has the number 0. Assumes nothing.
use mathlib.Core.Bool.{true}
use mathlib.Core.Path.{◌≡◌, refl}
use Prim.Native.Nat.{ℕ}
use native.Mathlib.Omega.{arith}
use lib.Dec.{leb}
use borrow.Author.Tests.{leb-true}
use Rattle.array_columns.specs.Refusal.{◌then◌, if_yes, Refusal, FieldIds, ChildCount, PartNotLent, TooManySlots, OffsetCount, ChildSlots, UnknownTypeId, OffsetRange, SliceRange, IndexRange, UnknownId, UnknownSetting, MaskRoom, StrategyNotAllowed, BuilderNumbers, BuilderRoom, NameNotFit, KindMismatch, CapacityReached, ColumnsReached, UnknownNumber, LengthMismatch, refusal_number}
use Rattle.array_columns.proofs.Tests.{then_left, refused_is}

one_at_least : (r : Refusal) → leb 1 (refusal_number r) ≡ true
one_at_least FieldIds = refl
one_at_least ChildCount = refl
one_at_least PartNotLent = refl
one_at_least TooManySlots = refl
one_at_least OffsetCount = refl
one_at_least ChildSlots = refl
one_at_least UnknownTypeId = refl
one_at_least OffsetRange = refl
one_at_least SliceRange = refl
one_at_least IndexRange = refl
one_at_least UnknownId = refl
one_at_least UnknownSetting = refl
one_at_least MaskRoom = refl
one_at_least StrategyNotAllowed = refl
one_at_least BuilderNumbers = refl
one_at_least BuilderRoom = refl
one_at_least NameNotFit = refl
one_at_least KindMismatch = refl
one_at_least CapacityReached = refl
one_at_least ColumnsReached = refl
one_at_least UnknownNumber = refl
one_at_least LengthMismatch = refl

pub refused_ne : (r : Refusal) → refusal_number r ≡ 0 → ⊥
refused_ne r h = omega (arith, leb-true 1 (refusal_number r) (one_at_least r))

pub if_refused : {A : Type 0} (r : Refusal) (x y : A) → if_yes (refusal_number r) x y ≡ y
if_refused r x y = refused_is (refusal_number r) x y (refused_ne r)

pub then_refused : (r : Refusal) (b : ℕ) → (refusal_number r then b) ≡ refusal_number r
then_refused r b = then_left (refusal_number r) b (refused_ne r)
