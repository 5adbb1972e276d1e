use Rattle.std.{proofs.Common.{◌≡◌, map, ◌==◌}, specs.List.range_with_len, specs.Prelude.filter}
use Rattle.olap_graph.specs.{Lookups.edge_at, Tables.drawn}
use Rattle.olap_graph.proofs.tables.edges_out.Given as goal

-- the edges out of the category so far
abbrev pub invariant-loop-i : goal.invariant-loop-i
invariant-loop-i l =
    map (λ e. e.0) l.out.items ≡ filter (λ e. (edge_at (drawn l.edges) e).child == l.category) (range_with_len 0 l.i)
