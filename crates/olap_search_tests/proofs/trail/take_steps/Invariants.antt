-- The trail stays one of the graph.
use Rattle.std.proofs.Common.{◌≡◌}
use Rattle.olap_search_tests.proofs.trail.take_steps.Given as goal

abbrev pub invariant-steps : goal.invariant-steps
invariant-steps g l = l.trail.graph ≡ l.initial.trail.graph
