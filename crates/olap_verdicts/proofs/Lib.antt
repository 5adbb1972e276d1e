-- Lemmas.
mod OneAnswer
mod SomeAnswer
pub mod AskedLemmas
mod WordLemmas
mod ReplyLemmas
