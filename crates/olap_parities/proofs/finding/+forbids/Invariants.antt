-- The variables that are left.
use Rattle.std.proofs.Common.{length}
use Rattle.olap_parities.proofs.finding.+forbids.Given as goal

abbrev pub decreases-forbids : goal.decreases-forbids
decreases-forbids l = length l.variables.now
