-- Definitions that contracts cite.

-- What a reader of the claims believes.
pub mod Faults
pub mod Files
pub mod Pieces
pub mod Sinks
-- The inside: what the values in memory stand for.
pub mod Calls
pub mod Told
pub mod Written
