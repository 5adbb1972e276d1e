-- Definitions that contracts cite.
pub mod Shapes
pub mod Partial
