-- What clauses inside the crate cite.
pub mod Sums
pub mod Known
pub mod Sets
pub mod Entries
pub mod Rows
pub mod Columns
