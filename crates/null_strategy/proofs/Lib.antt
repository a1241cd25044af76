-- The laws that the proofs of null_strategy cite.
pub mod Settings
pub mod FieldStates
pub mod Choosing
