-- Lemmas.
pub mod NeedLemmas
mod RoomLemmas
mod MemberLemmas
mod ListingLemmas
mod TextLemmas
