-- Some facts more have gone into the views.
use Rattle.std.proofs.Common.{map, subst}
use Rattle.olap_facts.specs.Seen.{fact_of}
use Rattle.olap_view.specs.Seen.{views_of}
use Rattle.olap_delta.{proofs.DeltaLemmas.taken_since, specs.Taking.AreIn, specs.declared.taking.Taken.Taken}
use Rattle.olap_delta.proofs.taking.Taken.and.Goals as goal

pub returns-in-Gone-clause-facts : goal.returns-in-Gone-clause-facts
returns-in-Gone-clause-facts c = λ facts h.
    let b = c.args.base in
    let views = views_of b.store.now in
    taken_since b.change b.legal.now views facts (map fact_of c.args.more.now) c.in-Gone.delta c.take_all.new.self
    (subst (λ (t : Taken). AreIn b.change b.legal.now views facts t) c.in-Gone.is h) c.take_all.ensures
