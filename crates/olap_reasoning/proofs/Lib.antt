-- Lemmas.
mod CertificateLemmas
mod ListingLemmas
mod ShapeLemmas
mod LineLemmas
mod OneAnswer
mod SomeNeeds
mod SomeShapes
mod SomeAnswer
pub mod AskedLemmas
mod ReplyLemmas
mod NeedsLemmas
mod WordLemmas
