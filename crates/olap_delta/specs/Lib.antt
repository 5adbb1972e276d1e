-- Definitions that contracts cite.

-- What a reader of the claims believes.
pub mod Changes
pub mod Laws
-- The inside: the program's kinds by their names, and a summary table while it is changed, fact by fact or by facts that
-- are joined by member.
pub mod Kinds
pub mod Reading
pub mod FactByFact
pub mod Changing
pub mod Lots
pub mod Joining
pub mod Taking
