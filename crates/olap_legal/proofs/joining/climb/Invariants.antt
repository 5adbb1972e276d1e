-- Whoever stands in the table has its row. Members are listed, and marks used up.
use Rattle.std.proofs.Common.{◌≡◌, length}
use Rattle.olap_legal.specs.Joining.{AreMembers, AreRows, left}
use Rattle.olap_legal.proofs.joining.climb.Given as goal

abbrev pub invariant-listed : goal.invariant-listed
invariant-listed l = record {
  rows : AreRows l.instance l.categories l.table;
  row : length l.row ≡ l.categories;
  seen : length l.seen.items ≡ length l.instance;
  listed : AreMembers l.instance l.list.items;
}

abbrev pub decreases-listed : goal.decreases-listed
decreases-listed l = left l.seen.items l.list.items
