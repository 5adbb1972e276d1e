-- One edge more is drawn, if it may be present.
use Rattle.std.proofs.Common.{◌≡◌, ◌<◌, ◌∙◌, length, ap, subst, sym, arith}
use Rattle.olap_base.specs.Graph.{Graph}
use Rattle.olap_graph.specs.Lookups.{edge_at}
use Rattle.olap_trail.specs.Decisions.{status_of}
use Rattle.olap_proof.proofs.{DrawingLemmas.{draws_edge, draws_none, draws_skip}, SeenLemmas.seen_possible}
use Rattle.olap_proof.proofs.tables.draw_possible.Goals.{then-may_be_present, else-may_be_present}
use Rattle.olap_proof.specs.{Places.possible_graph, Seen.{is_possible, SeenPossible}, Tables.Draws}
use Rattle.olap_proof.proofs.tables.draw_possible.Goals as goal

pub edges-init : goal.edges-init
edges-init c =
    draws_none (possible_graph c.args.trail.now) (SeenPossible c.args.trail.now 0) c.args.rows.now
    (λ x y s. omega (arith, s.1))

pub edges-preserved : goal.edges-preserved
edges-preserved c =
    let inside : e < length t.graph.edges =
    omega (arith, c.edges-test.true, c.edges-e-end.ensures.count, ap (λ (g : Graph). length g.edges) known.graph) in
    let told = sym (ap is_possible c.status.ensures) ∙ sym c.may_be_present.ensures in
    elim c.if-may_be_present.branch [
      | then-may_be_present w ↦
          draws_edge (possible_graph t) (λ j. is_possible (status_of t j)) (edge_at t.graph) e old mid so _ _
          w.index-rows-c.result w.with.result (ap (λ (g : Graph). edge_at g e) known.graph ∙ w.ends.ensures.edge)
          w.from-c.ensures (omega (arith, w.ends.ensures.child, so.count, known.count)) w.index-rows-c.is w.with.ensures
          (seen_possible t e inside (told ∙ w.if-may_be_present.true)) w.rows-is
      | else-may_be_present w ↦
          draws_skip (possible_graph t) (λ j. is_possible (status_of t j)) (edge_at t.graph) e old mid so
          (told ∙ w.if-may_be_present.false) w.rows-is
    ]
  where
    open c use {
      args.trail.now as t,
      args.rows.now as old,
      edges.e,
      edges.invariant as so,
      edges.rows as mid,
      requires as known,
    }

pub returns-clause-drawn : goal.returns-clause-drawn
returns-clause-drawn c =
    let t = c.args.trail.now in
    let end : c.edges.e ≡ length c.args.graph.now.edges =
    omega (arith, c.edges.auto.e-end, c.edges-test.false, c.edges-e-end.ensures.count) in
    subst (λ n. Draws (possible_graph t) (SeenPossible t n) c.args.rows.now c.edges.rows) end c.edges.invariant
