-- Laws that belong to no one function.
pub mod Refused
pub mod Known
pub mod Parts
pub mod Checked
pub mod Places
pub mod Runs
pub mod ChildSlots
pub mod Reading
