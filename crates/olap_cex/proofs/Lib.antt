-- Lemmas.
pub mod OneLine
mod PresentLemmas
mod EndLemmas
mod LineLemmas
mod ListLemmas
mod DraftLemmas
mod ParentLemmas
mod PlaceLemmas
pub mod CountLemmas
mod CexLemmas
mod LawLemmas
mod PrintedLemmas
