-- What is remembered is right, and the constraints so far are met.
use Rattle.std.proofs.Common.{ℕ, ◌<◌, map}
use Rattle.olap_ast.specs.{Schema.Meets, Trees.constraint_of}
use Rattle.olap_check.specs.{Meeting.constraint_at, Seen.IsSeen}
use Rattle.olap_check.proofs.meeting.first_violated.Given as goal

abbrev pub invariant-constraints : goal.invariant-constraints
invariant-constraints l =
    IsSeen l.instance l.seen
    × ((j : ℕ) → j < l.k → Meets l.instance (constraint_at (map constraint_of l.constraints) j))
