-- Lemmas.
mod RowLemmas
mod PermutedLemmas
mod StoreChangedLemmas
mod ChangeLemmas
mod StorableLemmas
mod LawLemmas
mod ChangingLemmas
mod StepLemmas
mod DeltaLemmas
mod JoinedRowLemmas
mod LotLemmas
mod TextLemmas
mod ListedLemmas
mod JoiningLemmas
mod JoinedTableLemmas
pub mod NamedLemmas
