-- Whoever stands in the table has its row, and what is listed is members.
use Rattle.std.proofs.Common.{◌≡◌, length}
use Rattle.olap_legal.specs.Joining.{AreMembers, AreRows}
use Rattle.olap_legal.proofs.joining.fill.Given as goal

abbrev pub invariant-members : goal.invariant-members
invariant-members l = record {
  rows : AreRows l.instance l.categories l.table;
  row : length l.row ≡ l.categories;
  seen : length l.seen.items ≡ length l.instance;
  listed : AreMembers l.instance l.list.items;
}
