-- Definitions that contracts cite.

-- What a reader of the claims believes.
pub mod Chains
pub mod Steps
pub mod Graph
pub mod Instance
pub mod Reaching
pub mod Summaries
pub mod Views
pub mod Above
pub mod OneFact
pub mod Limits
pub mod Naming
pub mod Following
pub mod Bytes
pub mod Ranks
pub mod Refusing
-- The inside: how a test decides.
pub mod Deciding
