-- How far the retreat has come.
use Rattle.std.proofs.Common.{length}
use Rattle.olap_clauses.{proofs.RetreatLemmas.IsRetreat, specs.Trails.steps_of}
use Rattle.olap_clauses.proofs.retreating.retreat.Given as goal

abbrev pub invariant-branches : goal.invariant-branches
invariant-branches l = IsRetreat l.pool l.floor l.fn.trail l.trail

abbrev pub decreases-branches : goal.decreases-branches
decreases-branches l = length (steps_of l.trail)
