-- Lemmas.
mod TellingLemmas
pub mod ReadingLemmas
pub mod RollingLemmas
