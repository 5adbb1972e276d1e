-- Lemmas.
mod SearchLemmas
mod PassingLemmas
mod LinkingLemmas
mod SplitLemmas
pub mod FirstLemmas
mod AboveLemmas
mod GroupLemmas
mod SeenLemmas
mod WayLemmas
mod BlockLemmas
mod MeetingLemmas
