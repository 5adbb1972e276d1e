-- What public clauses cite, in reading order.
pub mod Literals
pub mod Spans
pub mod Pools
