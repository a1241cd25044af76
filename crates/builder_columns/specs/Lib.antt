-- The definitions that the contracts of builder_columns cite, in reading order.
pub mod Columns
pub mod Puts
-- What the contracts of inner functions cite.
pub mod Finding
pub mod Writing
pub mod Planning
