-- Lemmas.
mod LongWords
mod VersionLemmas
mod AskedLemmas
mod OneOutcome
mod SomeOutcome
mod SureLemmas
mod Accepting
