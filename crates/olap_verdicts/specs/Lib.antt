-- Definitions that contracts cite, in reading order: what is asked, what answers it, and the commands' orders.
pub mod Questions
pub mod Commands
pub mod Laws
-- The inside: what is left of an order after its schema, and the commands of the code as orders.
pub mod Seen
