-- The records seen so far have no fault, and the table tells them.
use Rattle.std.proofs.Common.{◌≡◌, ◌+◌, List, length}
use Rattle.olap_records.proofs.Seeing.{HasSeen}
use Rattle.olap_view.specs.{StoreReading.{Record, Tells}, StoreText.store_fault}
use Rattle.olap_view.proofs.storing.read_rows.Given as goal

abbrev pub invariant-rows : goal.invariant-rows
invariant-rows l = record {
  seen : List Record;
  has_seen : HasSeen (store_fault l.graph l.instance) l.fn.rows.left seen l.rows.left;
  told : Tells l.graph l.instance seen l.table;
  at : l.at ≡ length seen + 2;
}

abbrev pub decreases-rows : goal.decreases-rows
decreases-rows l = length l.rows.left
