-- Definitions that contracts cite, in reading order: the claim of `olap`, and then what its parts say.
pub mod Questions
pub mod Commands
pub mod Outcome
pub mod Laws
