-- The laws that the proofs of builder_appends cite.
pub mod Asking
pub mod Planned
pub mod Stepping
pub mod Lengths
pub mod OneReading
