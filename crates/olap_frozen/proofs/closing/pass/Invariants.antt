-- The sets so far have what k's set has, where they have k.
use Rattle.olap_graph.proofs.RowLemmas.{IsPassing}
use Rattle.olap_frozen.proofs.closing.pass.Given as goal

abbrev pub invariant-categories : goal.invariant-categories
invariant-categories l = IsPassing l.initial.rows l.rows l.k l.c
