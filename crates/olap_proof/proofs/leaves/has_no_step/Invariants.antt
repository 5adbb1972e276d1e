-- Each edge so far is no step.
use Rattle.std.proofs.Common.{◌<◌, ℕ, get_or}
use Rattle.olap_proof.specs.Lines.{IsNoStep}
use Rattle.olap_proof.proofs.leaves.has_no_step.Given as goal

abbrev pub invariant-edges : goal.invariant-edges
invariant-edges l = (k : ℕ) → k < l.i
    → IsNoStep l.known.form l.known.graph.now l.known.place.now l.to.0 (get_or l.edges k (record { 0 = 0 })).0
