-- The second and the third solver have no clauses.
use Rattle.olap_clauses.proofs.engine.Engine.new.Goals as goal

pub returns-clause-admits : goal.returns-clause-admits
returns-clause-admits c = λ v t. (
  c.in_ok-solver.ensures.admits v t,
  c.in_ok-second.ensures v,
  c.in_ok-third.ensures v,
)
