-- Definitions that contracts cite.
pub mod Hashing
pub mod Members
pub mod Made
pub mod IdsInside
pub mod RosterInside
pub mod ListsInside
pub mod InstanceInside
pub mod InstanceText
pub mod InstanceMeaning
pub mod Refusals
pub mod Passes
pub mod Laws
pub mod Drafts
pub mod DraftInside
pub mod Printing
pub mod Kinds
