-- Lemmas.
mod Reading
mod Writing
mod Places
pub mod FaultLemmas
mod FillingLemmas
