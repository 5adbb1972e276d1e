-- The part that is left to search lies within the list, and shrinks.
use Rattle.std.proofs.Common.{◌≤◌, ◌-◌, length}
use Rattle.olap_check.proofs.gathering.find.Given as goal

abbrev pub invariant-halves : goal.invariant-halves
invariant-halves l = (l.from ≤ l.to) × (l.to ≤ length l.atoms)

abbrev pub decreases-halves : goal.decreases-halves
decreases-halves l = l.to - l.from
