-- Definitions that contracts cite, in reading order: what is asked, what answers it, and the commands' orders.
pub mod Certificates
pub mod Listings
pub mod ShapeListings
pub mod Needing
pub mod Questions
pub mod Commands
pub mod Laws
pub mod Existing
pub mod ShapeLaws
-- The inside: what is left of an order once its schema is read, and the commands of the code as orders.
pub mod Under
pub mod Seen
