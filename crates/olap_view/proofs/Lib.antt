-- Lemmas.
mod PrintingLemmas
pub mod SeenLemmas
mod StoresLemmas
pub mod SummaryLemmas
mod ColumnLemmas
mod TableLemmas
mod ViewingLemmas
pub mod FittingLemmas
mod SummaryTableLemmas
mod WaitingLemmas
mod TallyLemmas
mod JoinedWaitingLemmas
mod MergingLemmas
mod RollerLemmas
pub mod StoredNumbersLemmas
mod StoredRowsLemmas
mod StoreReadingLemmas
mod GuessLemmas
mod JudgingLemmas
pub mod StoreTextLemmas
pub mod FileOrderLemmas
mod StoreLemmas
pub mod StoreLawLemmas
mod PrintedStoreLemmas
pub mod ReadStoreLemmas
pub mod StoreMeaningLemmas
