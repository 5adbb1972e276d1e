-- One decision more is seen.
use Rattle.std.proofs.Common.{◌≡◌, ℕ, ◌↔◌, length, subst, sym, arith}
use Rattle.olap_base.specs.Graph.{Edge}
use Rattle.olap_bits.specs.Sets.{members}
use Rattle.olap_graph.specs.Lookups.{edge_at}
use Rattle.olap_proof.proofs.TouchingLemmas.{touched_at_first, touched_by}
use Rattle.olap_proof.specs.{Seen.{TouchedByDecisions, decision_at}, Walking.{IsIn, IsTouched}}
use Rattle.olap_proof.proofs.knowing.touch_decisions.Goals as goal

pub decisions-init : goal.decisions-init
decisions-init c =
    touched_at_first (λ k. (decision_at ds k).present) (λ k. (edge_at g (decision_at ds k).edge.0).child)
    (λ k. (edge_at g (decision_at ds k).edge.0).parent) (members c.args.set.now)
  where
    open c use {args.decisions.now as ds, args.graph.now as g}

pub decisions-preserved : goal.decisions-preserved
decisions-preserved c =
    let new = members c.touch.new.set in
    touched_by (λ k. (decision_at ds k).present) (λ k. (edge_at g (decision_at ds k).edge.0).child)
    (λ k. (edge_at g (decision_at ds k).edge.0).parent) i (members c.args.set.now) (members c.decisions.set) new
    c.decisions.invariant
    (subst (λ (x : Edge). IsTouched (members c.decisions.set) (decision_at ds i).present x.child x.parent new)
    (sym c.ends.ensures.edge) c.touch.ensures)
  where
    open c use {args.decisions.now as ds, args.graph.now as g, decisions.i}

pub returns : goal.returns
returns c =
    let ds = c.args.decisions.now in
    let end : c.decisions.i ≡ length ds = omega (arith, c.decisions.auto.i-end, c.decisions-test.false) in
    subst (λ n. (x : ℕ) → IsIn (members c.decisions.set) x
    ↔ TouchedByDecisions (members c.args.set.now) c.args.graph.now ds n x) end c.decisions.invariant
