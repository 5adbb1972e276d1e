-- At most the edges so far.
use Rattle.std.proofs.Common.{◌≤◌}
use Rattle.olap_encoding.proofs.directions.edges_on_cycles.Given as goal

abbrev pub invariant-edges : goal.invariant-edges
invariant-edges l = l.count ≤ l.k
