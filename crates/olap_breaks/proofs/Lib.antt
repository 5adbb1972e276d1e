-- Lemmas.
mod FindLemmas
mod BreakLemmas
mod CodeLemmas
mod TextLemmas
