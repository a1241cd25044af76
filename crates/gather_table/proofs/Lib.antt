-- The laws that the proofs of gather_table cite.
pub mod Entries
