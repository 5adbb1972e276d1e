-- Lemmas.
mod BitLemmas
pub mod CatSetLemmas
mod ChangingLemmas
mod JoiningLemmas
mod SubsetLemmas
mod FirstLemmas
mod CountingLemmas
