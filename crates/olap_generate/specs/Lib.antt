-- Definitions that contracts cite.
pub mod Location
pub mod Members
pub mod Inputs
pub mod Generated
pub mod Served
-- The inside: what has been made at each stage.
pub mod Stages
