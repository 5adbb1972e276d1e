-- The one marked member of the category so far, or none.
use Rattle.olap_check.specs.Splitting.{IsFoundAmong}
use Rattle.olap_check.proofs.parting.has_two.Given as goal

abbrev pub invariant-members : goal.invariant-members
invariant-members l = IsFoundAmong l.instance l.seen l.category l.y l.one
