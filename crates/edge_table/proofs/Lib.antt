pub mod Edges
pub mod Witness
