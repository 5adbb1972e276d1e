-- The member of the second category is among the parents of the first's.
use Rattle.olap_check.proofs.AboveLemmas.{edge_there}
use Rattle.olap_check.proofs.above.AboveShape.has_edge.Goals as goal

pub returns : goal.returns
returns c =
    let s = c.args.self.now in
    edge_there s.instance.now s.categories s.x c.args.c.0 c.args.d.0 c.in-Some.y c.in-Some-member.z s.table.now
    c.parents.result.now c.contains.result c.in-Some.ensures.some c.in-Some-member.ensures.some c.parents.ensures.list
    c.contains.ensures.cases
