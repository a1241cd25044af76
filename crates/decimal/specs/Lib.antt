-- The definitions that the contracts of decimal cite, in reading order; Written is for inner functions.
pub mod Digits
pub mod Integers
pub mod Text
pub mod Written
