-- Definitions that contracts cite.
pub mod Proofs
