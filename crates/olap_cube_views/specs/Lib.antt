-- Definitions that contracts cite.

-- What a reader of the claims believes.
pub mod Dimensions
pub mod Seen
pub mod CubeFactText
pub mod CubeFactMeaning
pub mod CubeRefusals
pub mod CubeRollingUp
pub mod CubeFeeding
pub mod CubeViewText
pub mod CubeLaws
-- The inside: what a map of summaries by tuples holds.
pub mod CubeTallies
