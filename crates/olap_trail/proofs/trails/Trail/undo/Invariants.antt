-- The decisions up to the mark stay.
use Rattle.std.proofs.Common.{◌≡◌, take, length}
use Rattle.olap_trail.proofs.trails.Trail.undo.Given as goal

abbrev pub invariant-decisions : goal.invariant-decisions
invariant-decisions g l = record {
  graph : l.self.graph ≡ l.fn.self.graph;
  root : l.self.root ≡ l.fn.self.root;
  kept : take l.mark.0 l.self.decisions ≡ take l.mark.0 l.fn.self.decisions;
}

abbrev pub decreases-decisions : goal.decreases-decisions
decreases-decisions g l = length l.self.decisions
