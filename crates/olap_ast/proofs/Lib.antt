-- Lemmas.
pub mod ChosenLemmas
pub mod Decided
pub mod Unviolated
pub mod Least
pub mod Violated
mod Truth
mod PartLemmas
mod KindLemmas
pub mod ComparedLemmas
pub mod ConstantLemmas
pub mod AtomLemmas
pub mod SameAtoms
mod CandidatesExist
mod NewNames
mod Renaming
pub mod Shape
mod ShapeInstance
pub mod SmallModel
pub mod Summing
mod Examples
mod SummarizableExample
mod OneMember
mod NumberExample
pub mod TextLemmas
pub mod Uniqueness
pub mod OrderedLists
pub mod Determined
pub mod QuestionLemmas
pub mod SourceLemmas
pub mod ListingLemmas
mod ThreeValueLemmas
