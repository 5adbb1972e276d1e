-- Definitions that contracts cite.

pub mod Statuses
