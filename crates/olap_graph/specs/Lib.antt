-- Definitions that contracts cite.

-- What a reader of the claims believes.
pub mod Lookups
pub mod Building
-- The inside: the lists and tables behind a graph, and marks of numbers.
pub mod Listing
pub mod Rows
pub mod Tables
pub mod Marking
pub mod Inside
