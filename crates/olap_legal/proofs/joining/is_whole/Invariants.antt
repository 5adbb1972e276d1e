-- The members so far have their rows.
use Rattle.std.proofs.Common.{ℕ, ◌<◌}
use Rattle.olap_legal.specs.Joining.{HasRow}
use Rattle.olap_legal.proofs.joining.is_whole.Given as goal

abbrev pub invariant-members : goal.invariant-members
invariant-members l = (y : ℕ) → y < l.x → HasRow l.instance l.categories y l.table
