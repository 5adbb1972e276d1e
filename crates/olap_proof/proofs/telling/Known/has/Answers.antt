use Rattle.std.proofs.Common.{sym, ◌∙◌}
use Rattle.olap_proof.proofs.TellingLemmas.{known_category}
use Rattle.olap_proof.proofs.telling.Known.has.Goals as goal

pub returns-clause-category : goal.returns-clause-category
returns-clause-category c = λ t.
    let s = c.args.self.now in
    known_category s.graph.now s.candidates.now s.place.now c.categories-graph.ensures.hierarchy s.within c.args.c.0
    ((s.all_known c.args.c.0).0 (sym c.has.ensures ∙ t))
