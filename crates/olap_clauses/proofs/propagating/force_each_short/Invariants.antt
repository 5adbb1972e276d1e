-- What was forced so far.
use Rattle.olap_clauses.specs.Admits.{Extends}
use Rattle.olap_clauses.proofs.propagating.force_each_short.Given as goal

abbrev pub invariant-nodes : goal.invariant-nodes
invariant-nodes l = Extends l.pool l.fn.trail l.trail
