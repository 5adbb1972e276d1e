-- Definitions that contracts cite.

-- What a reader of the claims believes: how a line is cut, what the tokens are, what the readers find and answer.
pub mod Cutting
pub mod Forms
pub mod Grammar
pub mod Brackets
pub mod Nodes
pub mod Words
pub mod Laws
pub mod Answering
pub mod Quoting
-- The inside: the readers' states, which `Laws` says find what is cut and formed.
pub mod Longest
pub mod CuttingMachine
pub mod Tallying
pub mod Keeping
pub mod Cutter
pub mod Machine
pub mod Clip
pub mod Shown
pub mod Parts
pub mod Reader
pub mod Frames
