-- The definitions that the contracts of null_strategy cite, in reading order.
pub mod Setting
pub mod Route
-- What the contracts of inner functions cite.
pub mod Fields
