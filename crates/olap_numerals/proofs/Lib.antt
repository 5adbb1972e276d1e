-- Lemmas.
pub mod NumeralLemmas
pub mod Spelling
mod Digits
mod FoundLemmas
pub mod RepresentativeLemmas
pub mod OrderLemmas
pub mod EnteringLemmas
pub mod NameLemmas
pub mod ComparingLemmas
mod Examples
