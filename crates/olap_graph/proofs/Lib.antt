-- Lemmas.
pub mod NamesApart
pub mod PlaceLemmas
pub mod GrowthLemmas
mod RefusalLemmas
pub mod MarkLemmas
pub mod TableLemmas
pub mod RowLemmas
mod EdgeLemmas
mod NameLemmas
