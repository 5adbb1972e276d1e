-- Lemmas.
mod BitLemmas
mod SumLemmas
mod RowLemmas
mod KnownLemmas
mod FindingLemmas
mod ColumnLemmas
pub mod ParityLemmas
mod EntryLemmas
