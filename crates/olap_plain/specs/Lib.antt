-- Definitions that contracts cite.
pub mod Plain
pub mod Searching
pub mod Searches
