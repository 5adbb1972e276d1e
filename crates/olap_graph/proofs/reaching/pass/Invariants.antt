use Rattle.olap_graph.proofs.RowLemmas.{IsPassing}
use Rattle.olap_graph.proofs.reaching.pass.Given as goal

-- the sets so far have what k's set has, where they have k
abbrev pub invariant-categories : goal.invariant-categories
invariant-categories l = IsPassing l.initial.rows l.rows l.k l.c
