-- What is known to be there is drawn, edges and then ways, and closed.
use Rattle.std.proofs.Common.{◌<◌, ◌∙◌, length, subst, sym}
use Rattle.olap_base.specs.Graph.{Graph}
use Rattle.olap_proof.proofs.DrawingLemmas.{closed_table, leading_all, leading_drawn, own_drawn}
use Rattle.olap_proof.{proofs.SeenLemmas.decisions_within, specs.Seen.decision_at, specs.Tables.place_of}
use Rattle.olap_proof.proofs.tables.fill_leading.Goals as goal

pub draw_decisions-requires-clause-edges : goal.draw_decisions-requires-clause-edges
draw_decisions-requires-clause-edges c = λ k l.
    let ds = c.decisions.result.now in
    subst (λ (g : Graph). (decision_at ds k).edge.0 < length g.edges) c.requires.graph
    (decisions_within c.args.trail.now ds c.decisions.ensures.decisions c.decisions.ensures.list k l)

pub close-requires-clause-own : goal.close-requires-clause-own
close-requires-clause-own c =
    own_drawn _ _ _ _ c.isolate.ensures.own (leading_drawn (place_of c.args.trail.now c.args.ways.now) c.args.graph.now
    c.decisions.result.now _ _ _ c.requires.graph (sym c.decisions.ensures.list) c.draw_decisions.ensures.drawn
    c.draw_ways.ensures.drawn)

pub returns : goal.returns
returns c =
    let p = place_of c.args.trail.now c.args.ways.now in
    let listed = sym c.decisions.ensures.list in
    closed_table _ _ _ _ _ _ (c.isolate.ensures.count ∙ c.requires.count) c.isolate.ensures.own
    (leading_drawn p g ds _ _ _ c.requires.graph listed c.draw_decisions.ensures.drawn c.draw_ways.ensures.drawn)
    (leading_all p g ds _ _ _ c.requires.graph listed c.draw_decisions.ensures.drawn c.draw_ways.ensures.drawn
    c.requires.ways (c.draw_decisions.ensures.count ∙ c.isolate.ensures.count ∙ c.requires.count)) c.close.ensures
  where
    open c use {args.graph.now as g, decisions.result.now as ds}
