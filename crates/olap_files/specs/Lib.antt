-- Definitions that contracts cite.

pub mod Calls
