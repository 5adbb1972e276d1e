-- Lemmas.
mod NumberLemmas
mod OneAnswer
mod CheapestLemmas
mod SomeAnswer
pub mod AskedLemmas
mod PlanLemmas
mod WordLemmas
