-- The definitions that the contracts of mask_words cite.
pub mod Steps
