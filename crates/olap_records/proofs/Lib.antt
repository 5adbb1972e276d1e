-- Lemmas of the crate.
mod Fuel
mod SameRow
mod Fields
mod Step
pub mod FaultLemmas
pub mod TableLemmas
pub mod Seeing
pub mod ReadingBack
pub mod Printed
mod StandingLemmas
mod NextLemmas
mod RunLemmas
pub mod JoinLemmas
pub mod MarkLemmas
