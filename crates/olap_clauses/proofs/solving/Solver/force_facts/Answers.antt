-- Where nothing stood, what is forced is true of each valuation that makes the clauses true.
use Rattle.olap_clauses.proofs.AdmitsLemmas.{facts_agree, extends_again}
use Rattle.olap_clauses.proofs.solving.Solver.force_facts.Goals as goal

pub returns-in-Some-clause-facts : goal.returns-in-Some-clause-facts
returns-in-Some-clause-facts c = λ v t. facts_agree c.in-Some.ensures.extends c.requires v t

pub returns-clause-facts : goal.returns-clause-facts
returns-clause-facts c = λ v t.
    facts_agree (extends_again c.in_default.ensures.extends c.propagate-broken.ensures.extends) c.requires v t
