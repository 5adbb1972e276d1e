use Rattle.std.{proofs.Common.{map, subst, ap, ◌∙◌}, specs.List.position_from, specs.Prelude.{IsSome, ◌↔◌}}
use Rattle.olap_base.specs.Graph.{Graph, HasEdge}
use Rattle.olap_graph.{proofs.PlaceLemmas.joins-found, specs.Listing.edge_of, specs.Lookups.joins}
use Rattle.olap_graph.proofs.building.GraphBuilder.edge.Goals as goal

pub returns-clause-has : goal.returns-clause-has
returns-clause-has c =
    let e = ap (λ es. position_from (joins child parent) 0 (map edge_of es)) c.deref.ensures.value in
    subst (λ (g : Graph). IsSome c.joining.result ↔ HasEdge g child parent) c.self.view_is
    (joins-found (map edge_of c.self.inside.edges.items) child parent c.joining.result (c.joining.ensures ∙ e))
  where
    open c use {args.child.0 as child, args.parent.0 as parent}
