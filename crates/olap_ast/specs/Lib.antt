-- Definitions that contracts cite.

-- What a reader of the claims believes.
pub mod Formula
pub mod Schema
pub mod Constants
pub mod Valid
pub mod Violation
pub mod Frozen
pub mod Summarizable
pub mod Findings
pub mod Questions
pub mod Parts
pub mod Example
pub mod ThreeValues
-- The inside: what the program's formulas stand for.
pub mod Atoms
pub mod Pairs
pub mod Trees
pub mod Listing
