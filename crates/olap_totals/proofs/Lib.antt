-- Lemmas.
mod ViewLemmas
mod WordLemmas
mod BreakingLemmas
mod StoreLemmas
mod FeedingLemmas
