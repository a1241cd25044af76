-- The definitions that the contracts of array_columns and of the crates above cite, in reading order.
pub mod Types
pub mod Buffers
pub mod Refusal
pub mod Slots
pub mod Questions
pub mod Lookup
pub mod Numbers
-- What the contracts of inner functions cite.
pub mod Pass
pub mod ById
pub mod Accepted
