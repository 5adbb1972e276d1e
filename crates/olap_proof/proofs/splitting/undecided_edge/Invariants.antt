-- Each edge so far is decided.
use Rattle.std.proofs.Common.{◌<◌, ◌≢◌, None, ℕ}
use Rattle.olap_trail.specs.Decisions.{status_of}
use Rattle.olap_proof.proofs.splitting.undecided_edge.Given as goal

abbrev pub invariant-edges : goal.invariant-edges
invariant-edges l = (x : ℕ) → x < l.e → status_of l.case.decided x ≢ None
