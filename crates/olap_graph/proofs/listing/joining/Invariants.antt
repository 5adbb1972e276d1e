use Rattle.std.{proofs.Common.{◌≡◌, drop, map}, specs.List.position_from}
use Rattle.olap_graph.specs.{Listing.edge_of, Lookups.joins}
use Rattle.olap_graph.proofs.listing.joining.Given as goal

-- no edge so far has the ends sought
abbrev pub invariant-loop-i : goal.invariant-loop-i
invariant-loop-i l =
    position_from (joins l.child.0 l.parent.0) 0 (map edge_of l.edges)
    ≡ position_from (joins l.child.0 l.parent.0) l.i (map edge_of (drop l.i l.edges))
