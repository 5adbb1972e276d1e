-- Lemmas.
pub mod TupleLemmas
pub mod CubeLemmas
pub mod ChoiceLemmas
pub mod DeterminedLemmas
pub mod RankLemmas
pub mod SumLemmas
mod OneDimensionLemmas
