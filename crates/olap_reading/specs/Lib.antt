-- Definitions that contracts cite: the steps, and how a violation is reported.
pub mod Violations
pub mod Steps
pub mod OfFacts
-- The inside: how the program prints a violation, what a refused check says, and the value of an opened file.
pub mod Telling
pub mod Broken
pub mod Rest
