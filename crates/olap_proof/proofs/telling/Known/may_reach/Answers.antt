use Rattle.std.proofs.Common.{arith}
use Rattle.olap_proof.proofs.TellingLemmas.{no_way_out}
use Rattle.olap_proof.proofs.telling.Known.may_reach.Goals as goal

pub returns : goal.returns
returns c =
    let s = c.args.self.now in
    no_way_out s.graph.now s.place.now.decided c.categories.ensures.hierarchy s.within.graph c.args.c.0 c.args.d.0
    (λ l. omega (arith, l, c.categories.ensures.count, c.if-c-categories.false))
