-- Definitions that contracts cite.

-- What a reader of the claims believes: what a text says, its first fault, what is printed, and what holds of both.
pub mod Lines
pub mod Statements
pub mod Tokens
pub mod Resolving
pub mod Judging
pub mod Kinds
pub mod Printing
pub mod PrintingLaws
pub mod Laws
-- The inside: parts of what a text says, and what the readers' values stand for.
pub mod Parts
pub mod Known
pub mod Reading
