-- The edges that may be present are drawn, and closed.
use Rattle.std.proofs.Common.{◌∙◌, length, subst}
use Rattle.olap_base.specs.Graph.{Graph, category_count}
use Rattle.olap_proof.proofs.{DrawingLemmas.{closed_table, own_drawn}, SeenLemmas.possible_seen}
use Rattle.olap_proof.specs.{Places.possible_graph, Seen.SeenPossible}
use Rattle.olap_proof.proofs.tables.fill_possible.Goals as goal

pub close-requires-clause-own : goal.close-requires-clause-own
close-requires-clause-own c =
    let t = c.args.trail.now in
    own_drawn (possible_graph t) (SeenPossible t (length c.args.graph.now.edges)) c.isolate.new.rows
    c.draw_possible.new.rows c.isolate.ensures.own c.draw_possible.ensures.drawn

pub returns : goal.returns
returns c =
    closed_table (possible_graph t) (category_count g) (SeenPossible t (length g.edges)) c.isolate.new.rows
    c.draw_possible.new.rows c.close.new.rows (c.isolate.ensures.count ∙ c.requires.count) c.isolate.ensures.own
    c.draw_possible.ensures.drawn
    (λ x y e. subst (λ (h : Graph). SeenPossible t (length h.edges) x y) c.requires.graph (possible_seen t x y e))
    c.close.ensures
  where
    open c use {args.trail.now as t, args.graph.now as g}
