-- Definitions that contracts cite, in reading order: what is asked, and the commands' orders.
pub mod Questions
pub mod Commands
-- The inside: what the facts of an opened file make of stored views, what is left of an order once its schema is read,
-- and the commands of the code as orders.
pub mod Feeding
pub mod Under
pub mod Seen
