-- Decisions and ways lie in the graph, and their edges are all that is known.
use Rattle.std.proofs.Common.{◌<◌, length, subst, sym, inl, inr}
use Rattle.olap_base.specs.Graph.{Graph, HasEdge}
use Rattle.olap_proof.proofs.SeenLemmas.{decisions_within, leading_seen, seen_present, seen_way}
use Rattle.olap_proof.{proofs.WalkingLemmas.{grows_on, grows_then}, specs.KeptWays.leading_way}
use Rattle.olap_proof.specs.{Places.leading_graph, Seen.{SeenDecisions, decision_at}}
use Rattle.olap_proof.proofs.walking.grow_by_known.Goals as goal

pub grow_by_decisions-by_decisions-requires : goal.grow_by_decisions-by_decisions-requires
grow_by_decisions-by_decisions-requires c = λ k l.
    let ds = c.decisions-decisions.result.now in
    subst (λ (g : Graph). (decision_at ds k).edge.0 < length g.edges) c.requires.graph
    (decisions_within c.args.place.now.decided ds c.decisions-decisions.ensures.decisions
    c.decisions-decisions.ensures.list k l)

pub grow_by_ways-by_ways-requires : goal.grow_by_ways-by_ways-requires
grow_by_ways-by_ways-requires c = λ w h.
    subst (λ n. w.parent < n) (sym c.categories-count.ensures.count) (c.requires.ways w h).1

pub returns : goal.returns
returns c =
    let lead = leading_graph p in
    let first = c.grow_by_decisions-by_decisions.ensures lead
    (λ k l h. rw (← c.requires.graph) (seen_present p ds (sym c.decisions-decisions.ensures.list) k l h)) in
    let second = rw c.categories-count.ensures.count at (c.grow_by_ways-by_ways.ensures lead (seen_way p)) in
    grows_on lead _ _ (HasEdge lead) _ _ _ (grows_then lead _ _ _ _ _ _ _ _ first second)
    (λ x y e. elim (leading_seen p ds (sym c.decisions-decisions.ensures.list) x y e) [
      | inl s ↦ inl (subst (λ (g : Graph). SeenDecisions g ds (length ds) x y) c.requires.graph s)
      | inr s ↦ inr ((c.requires.ways (leading_way x y) s).0, s)
    ])
  where
    open c use {args.place.now as p, decisions-decisions.result.now as ds}
