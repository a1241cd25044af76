-- What the exported functions' contracts cite: each call at the boundary, over the C structs of union_c.
pub mod Boundary
pub mod Arrays
pub mod Nulls
pub mod Builders
pub mod Values
pub mod Appends
