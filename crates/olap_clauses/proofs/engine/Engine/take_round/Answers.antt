-- The solver whose turn it is answers for all.
use Rattle.olap_clauses.proofs.engine.Engine.take_round.Goals as goal

pub returns-clause-nothing : goal.returns-clause-nothing
returns-clause-nothing g c = λ e v m a d. s.nothing e v m (r.admits v a) (rw r.trail d)
  where
    open c use {make_ready.ensures as r, search-outcome.ensures as s, bring.ensures as b}

pub returns-clause-admits : goal.returns-clause-admits
returns-clause-admits g c = λ v m a. b.admits v (s.admits v m (r.admits v a))
  where
    open c use {make_ready.ensures as r, search-outcome.ensures as s, bring.ensures as b}
