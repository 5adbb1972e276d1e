use Rattle.std.proofs.Common.{◌≡◌, length}
use Rattle.olap_frozen.proofs.frozen.Room.new.Given as goal

abbrev pub invariant-categories : goal.invariant-categories
invariant-categories l = length l.rows.items ≡ l.counter
