-- The edges of document 01 that are marked P, as one table.
pub mod Table
pub mod Witness
