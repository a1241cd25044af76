-- The definitions that the contracts of decimal_float cite, over those of decimal, in reading order; Division and Written are for inner functions.
pub mod Floats
pub mod Division
pub mod Written
