use Rattle.std.proofs.Common.{sym, ◌∙◌}
use Rattle.olap_frozen.proofs.LeafLemmas.{reach_there}
use Rattle.olap_frozen.proofs.leaves.LeafShape.reaches.Goals as goal

pub returns : goal.returns
returns c =
    let s = c.args.self.now in
    reach_there s.graph.now s.candidates.now s.root.0 s.edges.now s.names.now s.rows.now c.has.ensures.hierarchy s.leaf
    c.args.c.0 c.args.d.0 c.row_has.result (sym c.has.ensures.present ∙ c.if-not-has.false) c.row_has.ensures
