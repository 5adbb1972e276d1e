-- The other solvers' clauses stay.
use Rattle.olap_clauses.proofs.engine.Engine.force.Goals as goal

pub returns-clause-follows : goal.returns-clause-follows
returns-clause-follows c = λ v a h. c.force.ensures.follows v a.0 h

pub returns-clause-admits : goal.returns-clause-admits
returns-clause-admits c = λ v a. (c.force.ensures.admits v a.0, a.1, a.2)
