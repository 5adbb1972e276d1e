-- A clause of the pool stands as it does by itself.
use Rattle.olap_clauses.proofs.RetreatLemmas.{stands_in_pool}
use Rattle.olap_clauses.proofs.retreating.stands_by.Goals as goal

pub returns : goal.returns
returns c = stands_in_pool c.args.pool.now c.args.trail.now c.clause.result.now c.stands.result
    c.clause.ensures c.stands.ensures
