-- Lemmas.
mod HeaderLemmas
pub mod BottomLemmas
mod TableLemmas
pub mod FittingLemmas
pub mod MeaningLemmas
mod CountingLemmas
pub mod FeedLemmas
mod PendingLemmas
mod WholeLemmas
