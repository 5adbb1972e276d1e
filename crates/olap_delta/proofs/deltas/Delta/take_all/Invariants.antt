-- The facts so far were taken.
use Rattle.olap_delta.{proofs.ListedLemmas.so_far, specs.Taking.AreTaken}
use Rattle.olap_delta.proofs.deltas.Delta.take_all.Given as goal

abbrev pub invariant-facts : goal.invariant-facts
invariant-facts l = AreTaken (so_far l.facts l.fact-index) l.fn.self l.self
