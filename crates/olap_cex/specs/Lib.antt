-- Definitions that contracts cite.
pub mod FrozenText
pub mod CexText
pub mod Present
pub mod FoundFor
pub mod CexFor
pub mod Laws
pub mod PrintingLaws
