-- None of the edges so far goes past.
use Rattle.olap_frozen.proofs.PassedLemmas.{NonePast}
use Rattle.olap_frozen.proofs.sound.is_passed.Given as goal

abbrev pub invariant-edges : goal.invariant-edges
invariant-edges l = NonePast l.fn.graph l.fn.edges l.fn.rows l.e-items l.d.0 l.e-index
