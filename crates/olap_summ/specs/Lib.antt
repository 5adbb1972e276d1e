-- Definitions that contracts cite.
pub mod Answers
pub mod Asking
pub mod Counterexamples
pub mod Decisions
pub mod Audits
pub mod Sights
