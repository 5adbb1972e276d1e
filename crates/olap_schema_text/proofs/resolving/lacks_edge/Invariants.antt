-- The categories so far are joined by edges.
use Rattle.std.{proofs.Common.{◌≡◌, length, map}, specs.Prelude.All}
use Rattle.olap_base.specs.Graph.{IsCategory}
use Rattle.olap_schema_text.specs.{Known.graph_seen, Resolving.lacks_edge}
use Rattle.olap_schema_text.proofs.resolving.lacks_edge.Given as goal

abbrev pub invariant-categories : goal.invariant-categories
invariant-categories l = record {
  so_far :
      lacks_edge (graph_seen l.known) l.fn.first.0 (map (λ c. c.0) l.fn.categories)
      ≡ lacks_edge (graph_seen l.known) l.child.0 (map (λ c. c.0) l.left);
  child : IsCategory (graph_seen l.known) l.child.0;
  there : All (λ c. IsCategory (graph_seen l.known) c.0) l.left;
}

abbrev pub decreases-categories : goal.decreases-categories
decreases-categories l = length l.left
