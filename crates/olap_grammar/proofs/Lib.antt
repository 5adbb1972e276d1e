-- Lemmas.
pub mod Levels
mod Complete
pub mod Sound
mod Hom
mod TokenLemmas
pub mod FewTokens
pub mod LongestLemmas
pub mod CutComplete
pub mod CutSound
mod CutterLemmas
mod TallyLemmas
mod RoomLemmas
mod KeepingLemmas
mod StackLemmas
pub mod ReaderLemmas
pub mod WordLemmas
mod LeafLemmas
