-- Laws that belong to no one function.
pub mod Tests
pub mod Signed
pub mod Columns
pub mod KindLaws
pub mod Values
pub mod Accepted
pub mod Present
pub mod OnePass
pub mod ById
pub mod Memory
pub mod Reading
pub mod Numbered
