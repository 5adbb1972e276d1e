-- Definitions that contracts cite.
pub mod CatSet
pub mod Sets
