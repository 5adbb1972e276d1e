-- One decision more is drawn, if it says present.
use Rattle.std.proofs.{Common.{◌≡◌, ◌∙◌, ℕ, length, ap, refl, subst, arith}, Math.ListN.length-set}
use Rattle.olap_base.specs.Graph.{Edge}
use Rattle.olap_graph.specs.Lookups.{edge_at}
use Rattle.olap_proof.proofs.DrawingLemmas.{draws_edge, draws_none, draws_skip}
use Rattle.olap_proof.proofs.tables.draw_decisions.Goals.{then-decision, else-decision}
use Rattle.olap_proof.specs.{Seen.{SeenDecisions, decision_at}, Tables.Draws}
use Rattle.olap_proof.proofs.tables.draw_decisions.Goals as goal

pub decisions-init : goal.decisions-init
decisions-init c = record {
  count = refl;
  drawn = λ g lie.
      draws_none g (SeenDecisions c.args.graph.now c.args.decisions.now 0) c.args.rows.now
      (λ x y s. omega (arith, s.1));
}

pub decisions-preserved : goal.decisions-preserved
decisions-preserved c = elim c.if-decision.branch [
  | then-decision w ↦ record {
    count = ap length w.rows-is ∙ length-set mid w.from-c.result w.with.result ∙ so.count;
    drawn = λ g lie. draws_edge g (λ j. (decision_at ds j).present) here i old mid (so.drawn g lie) w.from-c.result _
        w.index-rows-c.result w.with.result w.ends.ensures.edge w.from-c.ensures
        (omega (arith, w.ends.ensures.child, so.count, c.requires.count)) w.index-rows-c.is w.with.ensures
        (lie i c.decisions-test.true w.if-decision.true) w.rows-is;
  }
  | else-decision w ↦ record {
    count = ap length w.rows-is ∙ so.count;
    drawn = λ g lie.
        draws_skip g (λ j. (decision_at ds j).present) here i old mid (so.drawn g lie) w.if-decision.false w.rows-is;
  }
]
  where
    open c use {
      args.decisions.now as ds,
      args.rows.now as old,
      decisions.i,
      decisions.invariant as so,
      decisions.rows as mid,
    }

    here : ℕ → Edge
    here j = edge_at c.args.graph.now (decision_at ds j).edge.0

pub returns-clause-drawn : goal.returns-clause-drawn
returns-clause-drawn c = λ g lie.
    let ds = c.args.decisions.now in
    let end : c.decisions.i ≡ length ds = omega (arith, c.decisions.auto.i-end, c.decisions-test.false) in
    subst (λ n. Draws g (SeenDecisions c.args.graph.now ds n) c.args.rows.now c.decisions.rows) end
    (c.decisions.invariant.drawn g lie)
