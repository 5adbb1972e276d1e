-- No decision so far says present.
use Rattle.std.proofs.Common.{◌≡◌, ◌<◌, ℕ, true}
use Rattle.olap_proof.specs.Seen.{decision_at}
use Rattle.olap_proof.proofs.drawn.first_present.Given as goal

abbrev pub invariant-decisions : goal.invariant-decisions
invariant-decisions l = (k : ℕ) → k < l.i → (decision_at l.decisions k).present ≡ true → ⊥
