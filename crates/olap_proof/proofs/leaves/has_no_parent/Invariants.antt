-- Each edge so far was decided absent.
use Rattle.std.proofs.Common.{◌≡◌, ◌<◌, ℕ, Some, false, get_or}
use Rattle.olap_trail.specs.Decisions.{status_of}
use Rattle.olap_proof.proofs.leaves.has_no_parent.Given as goal

abbrev pub invariant-edges : goal.invariant-edges
invariant-edges l = (k : ℕ) → k < l.i
    → status_of l.known.place.now.decided (get_or l.edges k (record { 0 = 0 })).0 ≡ Some false
