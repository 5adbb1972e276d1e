-- Definitions that contracts cite.

-- What a reader of the claims believes.
pub mod Seen
pub mod Stores
pub mod ViewText
pub mod StoredNumbers
pub mod StoreText
pub mod StoreMeaning
pub mod StoreLaws
pub mod SummaryTables
pub mod Tallies
pub mod RollingUp
-- The inside: the names of kinds, what a table of summaries holds, and the numbers of the machine.
pub mod Kinds
pub mod NumbersInside
pub mod StoredRows
pub mod StoreReading
pub mod Bounds
pub mod Columns
pub mod Tables
pub mod Merging
