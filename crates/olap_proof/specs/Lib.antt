-- Definitions that contracts cite.
pub mod Places
pub mod Lines
pub mod Certificates
pub mod Examples
pub mod FullPlaces
pub mod Existing
-- How the program reads a text.
pub mod Closing
pub mod Doing
pub mod Reading
pub mod KeptParts
pub mod KeptWays
pub mod KeptTables
pub mod Kept
pub mod Walking
pub mod Seen
pub mod Tables
pub mod Tabled
pub mod Within
pub mod DoneHere
pub mod Branches
pub mod Advancing
pub mod Stages
pub mod Verifying
pub mod Judged
-- How it writes one.
pub mod ClosedHere
pub mod Asking
pub mod Trees
pub mod Rooted
