-- One edge more is taken.
use Rattle.std.proofs.Common.{◌<◌, ◌∙◌, length, ap, subst, sym, arith}
use Rattle.olap_base.specs.Graph.{Edge, Graph, category_count}
use Rattle.olap_bits.specs.Sets.{members}
use Rattle.olap_graph.specs.Lookups.{edge_at}
use Rattle.olap_trail.specs.Decisions.{status_of}
use Rattle.olap_proof.{proofs.SeenLemmas.seen_possible, proofs.WalkingLemmas.grows_by, specs.Places.possible_graph}
use Rattle.olap_proof.specs.{Seen.is_possible, Walking.IsAdded}
use Rattle.olap_proof.proofs.walking.grow_by_possible.Goals as goal

pub edges-preserved : goal.edges-preserved
edges-preserved c =
    let inside : e < length t.graph.edges =
    omega (arith, c.edges-test.true, c.edges-e-end.ensures.count, ap (λ (g : Graph). length g.edges) c.requires) in
    let ends = ap (λ (g : Graph). edge_at g e) c.requires ∙ c.ends.ensures.edge in
    let taken = c.may_be_present-possible.ensures ∙ ap is_possible c.status.ensures in
    grows_by (possible_graph t) _ (λ k. is_possible (status_of t k)) (λ k. (edge_at t.graph k).child)
    (λ k. (edge_at t.graph k).parent) e _ _ _ _ _ c.edges.invariant (seen_possible t e inside)
    (subst (λ (x : Edge). x.parent < category_count graph) (sym ends) c.ends.ensures.parent)
    (subst (λ (x : Edge). IsAdded (members c.edges.set) (is_possible (status_of t e)) x.child x.parent c.edges.grew
    (members c.add-grew.new.set) c.add-grew.result) (sym ends) (rw taken at c.add-grew.ensures))
  where
    open c use {args.place.now.decided as t, args.graph.now as graph, edges.e}
