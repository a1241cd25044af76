-- The definitions that the contracts of array_slots and of union_array cite, in reading order.
pub mod Types
pub mod Slots
pub mod Values
-- What the contracts of inner functions cite.
pub mod Check
pub mod Accepted
pub mod ChildSlot
