-- Definitions that contracts cite, in reading order: what is asked, what answers it, and the commands' orders.

-- What a reader of the claims believes.
pub mod Shown
pub mod Questions
pub mod Numbers
pub mod Commands
pub mod Laws
pub mod Existing
-- The inside: what is left of an order under a schema, and the commands of the code as orders.
pub mod Under
pub mod Seen
