-- The definitions that the contracts of batch_description cite, in reading order.
pub mod Description
-- What the contracts of inner functions cite.
pub mod Filling
