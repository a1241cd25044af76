-- A refused call's number is not 0. Assumes nothing.
use Rattle.std.proofs.Common.{◌≡◌, refl, true, ◌<◌}
use lib.Dec.{ltb}
use borrow.Author.Tests.{ltb-true}
use Rattle.array_columns.specs.declared.Refusal.{Refusal}
use Rattle.array_columns.specs.declared.Refusal.TheVariants.{FieldIds, ChildCount, PartNotLent, TooManySlots, OffsetCount, ChildSlots, UnknownTypeId, OffsetRange, SliceRange, IndexRange, UnknownId, UnknownSetting, MaskRoom, StrategyNotAllowed, BuilderNumbers, BuilderRoom, NameNotFit, KindMismatch, CapacityReached, ColumnsReached, UnknownNumber, LengthMismatch}
use Rattle.array_columns.specs.Refusal.{refusal_number}

tested : (r : Refusal) → ltb 0 (refusal_number r) ≡ true
tested =
    elim [ FieldIds ↦ refl | ChildCount ↦ refl | PartNotLent ↦ refl | TooManySlots ↦ refl | OffsetCount ↦ refl | ChildSlots ↦ refl | UnknownTypeId ↦ refl | OffsetRange ↦ refl | SliceRange ↦ refl | IndexRange ↦ refl | UnknownId ↦ refl | UnknownSetting ↦ refl | MaskRoom ↦ refl | StrategyNotAllowed ↦ refl | BuilderNumbers ↦ refl | BuilderRoom ↦ refl | NameNotFit ↦ refl | KindMismatch ↦ refl | CapacityReached ↦ refl | ColumnsReached ↦ refl | UnknownNumber ↦ refl | LengthMismatch ↦ refl ]

pub refusal_positive : (r : Refusal) → 0 < refusal_number r
refusal_positive r = ltb-true 0 (refusal_number r) (tested r)
