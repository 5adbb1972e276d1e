use Rattle.olap_plain.proofs.PlainLemmas.{below_is}
use Rattle.olap_plain.proofs.viewing.is_below.Goals as goal

pub returns-in-Some : goal.returns-in-Some
returns-in-Some c = below_is c.args.members.now c.args.x c.args.y c.in-Some.m.now c.deref.result.now c.contains.result
    c.in-Some.ensures.lookup.3.0 c.in-Some.ensures.lookup.1 c.deref.ensures.value c.contains.ensures.cases
