-- Laws that belong to no one function.
pub mod Words
pub mod Tables
pub mod Firsts
pub mod Setting
pub mod Ids
pub mod Chunks
pub mod Counts
pub mod OneBit
pub mod Selections
