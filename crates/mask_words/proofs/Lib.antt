-- The laws that the proofs of mask_words, and of the crates above, cite.
pub mod Padded
pub mod Selecting
pub mod ValidIds
pub mod StepWords
pub mod Writing
pub mod TakenUp
pub mod Stepping
