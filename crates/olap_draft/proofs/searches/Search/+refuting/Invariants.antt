-- The measure is how many variables may still be split by, and within that how far a call has come.
use Rattle.std.proofs.Common.{◌+◌, ◌*◌}
use Rattle.olap_draft.proofs.searches.Search.+refuting.Given as goal

abbrev pub decreases-refute : goal.decreases-refute
decreases-refute l = 3 * l.depth + 2

abbrev pub decreases-split : goal.decreases-split
decreases-split l = 3 * l.depth + 1

abbrev pub decreases-refute_cases : goal.decreases-refute_cases
decreases-refute_cases l = 3 * l.depth + 3
