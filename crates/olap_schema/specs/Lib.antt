-- Definitions that contracts cite.

-- What a reader of the claims believes: what a schema stands for, and what each keeps.
pub mod Readable
pub mod Schemas
-- The inside: a schema as contracts see it.
pub mod Shown
