-- None so far closes the place.
use Rattle.std.proofs.Common.{◌<◌, ℕ}
use Rattle.olap_proof.specs.{ClosedHere.IsOpenHere, Lines.Line.Dead}
use Rattle.olap_proof.proofs.closing.dead_line.Given as goal

abbrev pub invariant-categories : goal.invariant-categories
invariant-categories l = (x : ℕ) → x < l.c → IsOpenHere l.known l.constraints l.question (Dead x)
