-- Lemmas.
mod FilesLemmas
mod RollingLemmas
mod DimensionLemmas
mod NameLemmas
mod WordLemmas
mod CutLemmas
mod TupleLemmas
mod OneAnswer
mod LeastLemmas
mod AllChoicesLemmas
mod SomeAnswer
pub mod AskedLemmas
