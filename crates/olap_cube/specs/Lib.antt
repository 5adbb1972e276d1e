-- Definitions that contracts cite.
pub mod Tuples
pub mod CubeViews
pub mod CubeSummarizable
pub mod Told
pub mod Limits
-- The inside: the counterexample by its codes.
pub mod Codes
