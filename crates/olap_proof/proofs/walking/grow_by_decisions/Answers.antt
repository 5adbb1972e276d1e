-- One decision more is taken.
use Rattle.std.proofs.Common.{◌≡◌, ◌<◌, length, subst, sym, arith}
use Rattle.olap_base.specs.Graph.{Edge, category_count}
use Rattle.olap_bits.specs.Sets.{members}
use Rattle.olap_graph.specs.Lookups.{edge_at}
use Rattle.olap_proof.{proofs.WalkingLemmas.grows_by, specs.Seen.{SeenDecisions, decision_at}}
use Rattle.olap_proof.specs.Walking.{Grows, IsAdded}
use Rattle.olap_proof.proofs.walking.grow_by_decisions.Goals as goal

pub decisions-preserved : goal.decisions-preserved
decisions-preserved c = λ g lie.
    let new = members c.add-grew.new.set in
    grows_by g (category_count graph) (λ k. (decision_at ds k).present)
    (λ k. (edge_at graph (decision_at ds k).edge.0).child) (λ k. (edge_at graph (decision_at ds k).edge.0).parent) i
    (members c.args.set.now) (members c.decisions.set) new c.decisions.grew c.add-grew.result
    (c.decisions.invariant g lie) (lie i c.decisions-test.true)
    (subst (λ (x : Edge). x.parent < category_count graph) (sym c.ends.ensures.edge) c.ends.ensures.parent)
    (subst (λ (x : Edge). IsAdded (members c.decisions.set) (decision_at ds i).present x.child x.parent c.decisions.grew
    new c.add-grew.result) (sym c.ends.ensures.edge) c.add-grew.ensures)
  where
    open c use {args.decisions.now as ds, args.graph.now as graph, decisions.i}

pub returns : goal.returns
returns c = λ g lie.
    let end : c.decisions.i ≡ length ds = omega (arith, c.decisions.auto.i-end, c.decisions-test.false) in
    subst (λ n. Grows g (category_count graph) (SeenDecisions graph ds n) (members c.args.set.now)
    (members c.decisions.set) c.decisions.grew) end (c.decisions.invariant g lie)
  where
    open c use {args.decisions.now as ds, args.graph.now as graph}
