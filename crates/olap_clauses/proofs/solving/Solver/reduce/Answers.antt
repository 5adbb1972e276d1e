-- The copies are true where all clauses are.
use Rattle.std.proofs.Common.{sym, subst}
use Rattle.olap_pool.specs.{Pools.AreTrue, declared.pools.Pool.Pool}
use Rattle.olap_clauses.proofs.solving.Solver.reduce.Goals as goal

pub returns-clause-admits : goal.returns-clause-admits
returns-clause-admits c = λ v a. record {
  clauses =
      subst (λ (p : Pool). AreTrue v p) (sym c.swap.ensures.x_after) (c.copy_some.ensures v a.clauses);
  forced = a.forced;
}
