-- Definitions that contracts cite.

-- What a reader of the claims believes.
pub mod FirstViolation
pub mod Reports
-- The inside: the tables, marks and searches by which each law and each constraint is judged.
pub mod Linking
pub mod Strata
pub mod Splitting
pub mod Passing
pub mod Above
pub mod Groups
pub mod Blocks
pub mod Seen
pub mod Meeting
