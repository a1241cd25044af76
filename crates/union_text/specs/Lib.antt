-- The definitions that the contracts of union_text cite, over those of decimal and decimal_float, in reading order.
pub mod KindNames
pub mod Printable
pub mod Values
