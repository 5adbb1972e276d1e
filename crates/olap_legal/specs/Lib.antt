-- Definitions that contracts cite.

-- What a reader of the claims believes.
pub mod Ancestors
-- What the check knows of the table: which instances have one, what stands in it, and what a marking leaves.
pub mod Rows
pub mod Tables
pub mod Marks
-- The inside: where the table's cells stand, and how rows are made of other rows.
pub mod Slots
pub mod Laying
pub mod Joining
