-- Definitions that contracts cite.
pub mod Values
pub mod Numerals
pub mod Comparing
pub mod Named
pub mod Spelling
pub mod Representatives
