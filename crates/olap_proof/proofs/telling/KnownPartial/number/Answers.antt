use Rattle.std.proofs.Common.{sym}
use Rattle.olap_proof.proofs.TellingLemmas.{named_index}
use Rattle.olap_proof.proofs.telling.KnownPartial.number.Goals as goal

pub name-name-requires-clause-category : goal.name-name-requires-clause-category
name-name-requires-clause-category c =
    let s = c.args.self.now in
    (named_index s.graph.now s.candidates.now s.place.now s.within c.args.c.0 c.in-Some.index (sym c.in-Some.ensures)).0

pub name-name-requires-clause-index : goal.name-name-requires-clause-index
name-name-requires-clause-index c =
    let s = c.args.self.now in
    (named_index s.graph.now s.candidates.now s.place.now s.within c.args.c.0 c.in-Some.index (sym c.in-Some.ensures)).1
