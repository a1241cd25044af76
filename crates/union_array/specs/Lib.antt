-- The definitions that the contracts of union_array cite, in reading order.
pub mod Types
pub mod Slots
pub mod Questions
pub mod Lookup
pub mod Slices
pub mod Values
-- What the contracts of inner functions cite.
pub mod Look
pub mod Movable
