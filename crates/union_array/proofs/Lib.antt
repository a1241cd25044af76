-- Laws that belong to no one function.
pub mod OnePass
pub mod Accepted
pub mod Checked
pub mod Lookups
pub mod ChildSlots
pub mod Reading
pub mod Runs
pub mod Sliced
pub mod SlicedSlots
