-- What the clause forces, the pool does.
use Rattle.olap_clauses.proofs.retreating.learned_from.Goals as goal

pub returns-in-Some-forces_from-clause-right : goal.returns-in-Some-forces_from-clause-right
returns-in-Some-forces_from-clause-right c = λ v t a.
    c.in-Some-forces_from.ensures.right v (c.clause.ensures v t) a
