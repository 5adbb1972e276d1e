-- Definitions that contracts cite.
pub mod Plans
pub mod PlanText
-- The inside: what one counterexample says of all masks, and which masks are left.
pub mod Patterns
pub mod Choices
