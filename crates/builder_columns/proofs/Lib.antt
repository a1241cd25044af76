-- The laws that the proofs of builder_columns cite.
pub mod Tests
pub mod Putting
pub mod Places
