-- None so far closes the place.
use Rattle.std.proofs.Common.{◌<◌, ℕ}
use Rattle.olap_proof.specs.{ClosedHere.IsOpenHere, Lines.Line.Unmet}
use Rattle.olap_proof.proofs.closing.unmet_line.Given as goal

abbrev pub invariant-constraints : goal.invariant-constraints
invariant-constraints l = (x : ℕ) → x < l.n → IsOpenHere l.known l.constraints l.question (Unmet x)
