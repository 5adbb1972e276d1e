-- Definitions that contracts cite, in reading order: orders, what is judged along them, and their steps.
pub mod Words
pub mod Outputs
pub mod Order
pub mod Judged
pub mod Families
pub mod Arguments
pub mod Steps
-- The inside: how the code takes a step and its words, and what a refusal says.
pub mod Taken
pub mod Behind
pub mod Refusals
