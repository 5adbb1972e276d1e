use Rattle.std.proofs.Common.{arith}
use Rattle.olap_dimsat.proofs.KnowingLemmas.{no_edge_past}
use Rattle.olap_dimsat.proofs.knowing.KnownPartial.edge.Goals as goal

pub returns-then-c-categories : goal.returns-then-c-categories
returns-then-c-categories c =
    let g = c.args.self.now.asker.now.question.graph.now in
    let n = c.categories.ensures.count in
    no_edge_past g c.args.self.now.trail.now c.categories.ensures.hierarchy c.args.c.0 c.args.d.0 (omega arith)
