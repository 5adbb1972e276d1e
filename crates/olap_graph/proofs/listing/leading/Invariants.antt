use Rattle.std.proofs.Common.{◌≢◌, ◌<◌, ℕ, get_or}
use Rattle.olap_graph.specs.{Marking.parents_of, Tables.drawn}
use Rattle.olap_graph.proofs.listing.leading.Given as goal

-- no edge so far leads to the parent
abbrev pub invariant-loop-e : goal.invariant-loop-e
invariant-loop-e l = (k : ℕ) → k < l.e-index → get_or (parents_of (drawn l.edges) l.out) k 0 ≢ l.parent.0
