-- Definitions that contracts cite, in reading order: what is asked, the steps over several dimensions, and the
-- commands' orders.
pub mod Questions
pub mod Steps
pub mod Commands
pub mod Laws
pub mod Existing
-- The inside: the words as the code cuts them, the view of facts that aren't kept, the value of an opened file, what is
-- left of an order under its schemas, and the commands of the code as orders.
pub mod Cut
pub mod OfFacts
pub mod Rest
pub mod Under
pub mod Seen
