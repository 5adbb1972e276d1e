-- The lots are joined in the categories so far.
use Rattle.olap_delta.proofs.JoinedTableLemmas.{IsSoFar}
use Rattle.olap_delta.proofs.changes.Change.join_all.Given as goal

abbrev pub invariant-categories : goal.invariant-categories
invariant-categories l = IsSoFar l.self l.lots l.k l.fn.table l.table
