use Rattle.std.proofs.Common.{◌≡◌, length}
use Rattle.olap_graph.specs.{Rows.AreDrawn, Tables.drawn}
use Rattle.olap_graph.proofs.reaching.draw.Given as goal

-- the edges so far are drawn
abbrev pub invariant-edges : goal.invariant-edges
invariant-edges l = record {
  count : length l.rows ≡ length l.initial.rows;
  drawn : AreDrawn (drawn l.edges) l.ends-index l.rows;
}
