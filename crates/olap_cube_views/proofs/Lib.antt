-- Lemmas.
mod RowLemmas
mod PermutedLemmas
mod SumLemmas
mod KeyLemmas
mod AncestorLemmas
mod OrderLemmas
mod CubeTallyLemmas
mod ReferenceLemmas
pub mod CubeReadingLemmas
pub mod CubeMeaningLemmas
mod CubePrintingLemmas
mod CubeCountingLemmas
mod CubeFeedLemmas
