-- What the contracts of the conversions cite: the C structs read and written.
pub mod Numbers
pub mod Arrays
pub mod Nulls
pub mod Builders
