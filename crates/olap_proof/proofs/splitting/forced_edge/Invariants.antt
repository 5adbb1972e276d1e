-- The place is the same.
use Rattle.std.proofs.Common.{◌≡◌}
use Rattle.olap_proof.proofs.splitting.forced_edge.Given as goal

abbrev pub invariant-edges : goal.invariant-edges
invariant-edges l = l.case ≡ l.initial.case
