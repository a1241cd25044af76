-- The laws that the proofs of batch_description cite.
pub mod ColumnOrder
pub mod Describing
