-- Lemmas.
pub mod StepLemmas
pub mod DecisionLemmas
pub mod GeneralLemmas
pub mod RankLemmas
pub mod ListLemmas
pub mod Part
pub mod AboveLemmas
pub mod TotalLemmas
pub mod RollingTotals
pub mod RollingLemmas
pub mod ViewLemmas
pub mod OneFactLemmas
pub mod PiecesLeft
pub mod RefusingLemmas
