-- Definitions that contracts cite.
pub mod Seen
pub mod FactText
pub mod FactMeaning
pub mod Kinds
pub mod Feeding
pub mod Pending
pub mod Laws
