-- None so far closes the place.
use Rattle.std.proofs.Common.{◌<◌, ℕ}
use Rattle.olap_proof.specs.{ClosedHere.IsOpenHere, Lines.Line.Loose}
use Rattle.olap_proof.proofs.closing.loose_line.Given as goal

abbrev pub invariant-edges : goal.invariant-edges
invariant-edges l = (x : ℕ) → x < l.e → IsOpenHere l.known l.constraints l.question (Loose x)
