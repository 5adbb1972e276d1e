-- Lemmas.
mod PlainLemmas
mod SearchLemmas
