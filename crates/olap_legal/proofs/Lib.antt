-- Lemmas. The check cites those that are public.
pub mod ParentLemmas
pub mod MarkingLemmas
pub mod TableLemmas
mod RisingLemmas
mod FrontierLemmas
mod SlotLemmas
mod LayingLemmas
mod JoiningLemmas
