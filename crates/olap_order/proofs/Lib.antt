-- Lemmas.
pub mod Stepping
pub mod Replying
pub mod Joining
pub mod Coming
pub mod ComingSteps
pub mod BehindLemmas
pub mod SourceLemmas
