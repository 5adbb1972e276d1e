-- The copies are true where all clauses and what stands are.
use Rattle.std.proofs.Common.{sym, subst}
use Rattle.olap_pool.specs.{Pools.AreTrue, declared.pools.Pool.Pool}
use Rattle.olap_clauses.proofs.solving.Solver.rewrite.Goals as goal

pub returns-clause-clauses : goal.returns-clause-clauses
returns-clause-clauses c = λ v a t.
    subst (λ (p : Pool). AreTrue v p) (sym c.swap.ensures.x_after) (c.copy_all-self.ensures.right v a t)
