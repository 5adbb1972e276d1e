-- The other solvers' clauses stay.
use Rattle.std.proofs.Common.{refl, sym, subst}
use Rattle.olap_pool.specs.{Pools.AreTrue, declared.pools.Pool.Pool}
use Rattle.olap_clauses.proofs.engine.Engine.derive.Goals as goal

pub returns-then-is_overfull-clause-none : goal.returns-then-is_overfull-clause-none
returns-then-is_overfull-clause-none c = λ _ v a.
    c.if-is_overfull.ensures refl v (subst (λ (p : Pool). AreTrue v p) (sym c.pool.ensures) a.0.clauses)

pub returns-clause-admits : goal.returns-clause-admits
returns-clause-admits c = λ v a. (c.derive.ensures.admits v a.0, a.1, a.2)
