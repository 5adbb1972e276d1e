-- No parent so far is passed.
use Rattle.olap_check.proofs.PassingLemmas.{NonePassedBefore}
use Rattle.olap_check.proofs.passing.shortcut_of.Given as goal

abbrev pub invariant-parents : goal.invariant-parents
invariant-parents l = NonePassedBefore l.instance l.x l.k
