-- Lemmas of the crate.
mod Index
mod RosterLemmas
mod MembersLemmas
mod HashingLemmas
pub mod PlaceFacts
mod ListsLemmas
mod LookUps
mod TextLemmas
mod HeaderLemmas
mod PieceLemmas
mod PiecesPassed
mod Stamps
mod EnteringLemmas
mod LinkingLemmas
mod Completing
pub mod Checks
mod Soundness
mod Refusing
mod DraftLemmas
mod Among
pub mod BuilderSteps
mod Joining
pub mod CategoryNames
mod PrintingLemmas
pub mod Passing
pub mod ReadBack
pub mod MeaningLemmas
