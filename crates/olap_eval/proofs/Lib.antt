-- Lemmas.
pub mod ShapeLemmas
pub mod PartialLemmas
