-- Nobody is lost before the facts are kept, nor then.
use Rattle.std.proofs.Common.{sym, subst}
use Rattle.olap_clauses.specs.Standing.{Forced}
use Rattle.olap_clauses.proofs.solving.Solver.new.Goals as goal

pub returns-clause-admits : goal.returns-clause-admits
returns-clause-admits c = λ v t. c.simplify.ensures.admits v (record {
  clauses = c.in_ok-reserve.ensures.kept v t;
  forced = subst (λ ss. Forced v ss) (sym c.in_ok-trail.ensures.empty) tt;
})
