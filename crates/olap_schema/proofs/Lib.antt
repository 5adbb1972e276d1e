-- Lemmas.
pub mod PairCounting
pub mod WithoutLemmas
