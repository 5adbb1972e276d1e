-- What the ancestor of one reaches, x reaches.
use Rattle.olap_check.proofs.AboveLemmas.{reach_there}
use Rattle.olap_check.proofs.above.AboveShape.reaches.Goals as goal

pub returns : goal.returns
returns c =
    let s = c.args.self.now in
    reach_there s.instance.now s.categories s.x c.args.c.0 c.args.d.0 c.in-Some.y s.table.now c.ancestor.result
    c.is_some.result s.sound
    c.in-Some.ensures.some.0 c.in-Some.ensures.some.1 c.ancestor.ensures.some c.ancestor.ensures.none c.is_some.ensures
