-- The definitions that the contracts of builder_appends cite, in reading order.
pub mod Questions
pub mod Readings
pub mod Steps
