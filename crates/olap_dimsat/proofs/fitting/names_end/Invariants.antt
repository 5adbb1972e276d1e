-- The names of the categories before have their variables before.
use Rattle.olap_dimsat.specs.{Asking.task_of, Tasks.AreNamesBefore}
use Rattle.olap_dimsat.proofs.fitting.names_end.Given as goal

abbrev pub invariant-categories : goal.invariant-categories
invariant-categories l = AreNamesBefore (task_of l.a) l.c l.end
