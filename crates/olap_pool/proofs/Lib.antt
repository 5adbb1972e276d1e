-- Lemmas.
pub mod ResultLemmas
mod PoolLemmas
