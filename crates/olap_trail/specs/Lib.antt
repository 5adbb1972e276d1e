-- Definitions that contracts cite.

-- What a reader of the claims believes.
pub mod Decisions
pub mod Trails
-- The inside: the edges that were decided present, and the tables beside them.
pub mod Drawing
pub mod Drawn
pub mod Inside
