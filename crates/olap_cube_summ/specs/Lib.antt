-- Definitions that contracts cite, in reading order: a cube, its counterexample and its text; patterns; the search.
pub mod Dimensions
pub mod Found
pub mod CubeCexText
pub mod Telling
pub mod Laws
pub mod Masks
pub mod Ways
pub mod Families
pub mod Questions
pub mod Patterns
pub mod Looking
pub mod Choices
pub mod Drawn
pub mod Reaching
