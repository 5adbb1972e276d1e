-- The table is as it was.
use Rattle.std.proofs.Common.{◌≡◌}
use Rattle.olap_parities.proofs.parities.note_all.Given as goal

abbrev pub invariant-clauses : goal.invariant-clauses
invariant-clauses l = l.values ≡ l.fn.values
