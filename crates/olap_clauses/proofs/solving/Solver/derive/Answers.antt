-- What parities come to is true where the clauses are.
use Rattle.std.proofs.Common.{sym, subst}
use Rattle.olap_pool.specs.{Pools.AreTrue, declared.pools.Pool.Pool}
use Rattle.olap_clauses.proofs.solving.Solver.derive.Goals as goal

pub returns-clause-admits : goal.returns-clause-admits
returns-clause-admits c = λ v a. record {
  clauses = subst (λ (p : Pool). AreTrue v p) (sym c.swap.ensures.x_after)
      (c.derive-some.ensures.kept v a.clauses (c.copy_some.ensures v a.clauses));
  forced = a.forced;
}
