-- Who agrees with the decisions agrees with what stands, and what stood stands.
use Rattle.olap_clauses.{proofs.AdmitsLemmas.agrees_decisions, specs.Solvers.trail_of}
use Rattle.olap_clauses.proofs.solving.Solver.search.Goals as goal

pub returns-clause-nothing : goal.returns-clause-nothing
returns-clause-nothing g c = λ e v m a d.
    c.run-outcome.ensures.nothing e v m a (agrees_decisions v (trail_of c.args.self.now) a.forced d)
