-- No parent so far is far below y.
use Rattle.olap_check.proofs.PassingLemmas.{NoneBelowBefore}
use Rattle.olap_check.proofs.passing.is_passed.Given as goal

abbrev pub invariant-parents : goal.invariant-parents
invariant-parents l = NoneBelowBefore l.instance l.x l.y l.z-index
