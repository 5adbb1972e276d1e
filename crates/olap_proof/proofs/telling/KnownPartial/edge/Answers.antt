use Rattle.std.proofs.Common.{◌<◌, Some, length, ap, subst, sym, arith}
use Rattle.olap_base.specs.Graph.{Graph}
use Rattle.olap_proof.{proofs.LineLemmas.edge_is, proofs.TellingLemmas.no_edge_out, specs.Places.truth_of_edge}
use Rattle.olap_proof.proofs.telling.KnownPartial.edge.Goals as goal

pub returns-then-c-categories : goal.returns-then-c-categories
returns-then-c-categories c =
    let s = c.args.self.now in
    ap (truth_of_edge s.place.now.decided)
    (sym (no_edge_out s.graph.now s.place.now.decided c.categories.ensures.hierarchy s.within.graph c.args.c.0
    c.args.d.0 (λ l. omega (arith, l, c.categories.ensures.count, c.if-c-categories.true))))

pub status-requires : goal.status-requires
status-requires c =
    let s = c.args.self.now in
    subst (λ (g : Graph). c.in-Some.e.0 < length g.edges) (sym s.within.graph)
    (edge_is s.graph.now c.args.c.0 c.args.d.0 (Some c.in-Some.e) c.in-Some.ensures.place).0
