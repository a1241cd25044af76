-- The definitions that the contracts of gather_table cite.
pub mod Table
