-- Lemmas.
pub mod ChosenLemmas
mod PatternLemmas
mod FoundLemmas
mod ChoiceLemmas
