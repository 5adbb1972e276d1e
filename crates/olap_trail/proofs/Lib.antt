-- Lemmas.
mod WalkLemmas
mod SetLemmas
mod StageLemmas
mod TableLemmas
pub mod TakingLemmas
mod DecisionLemmas
mod CountingLemmas
mod TrailLemmas
mod DrawnLemmas
mod BypassLemmas
