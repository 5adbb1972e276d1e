-- Each has the other's clauses.
use Rattle.std.proofs.Common.{sym, subst}
use Rattle.olap_clauses.specs.declared.solving.Solver.{Solver}
use Rattle.olap_pool.specs.Pools.{AreTrue}
use Rattle.olap_clauses.proofs.solving.Solver.change_places.Goals as goal

pub returns-then-variables-clause-clauses : goal.returns-then-variables-clause-clauses
returns-then-variables-clause-clauses c = λ v a b. (
  subst (λ (s : Solver). AreTrue v s.pool) (sym c.swap.ensures.x_after) b,
  subst (λ (s : Solver). AreTrue v s.pool) (sym c.swap.ensures.y_after) a,
)
