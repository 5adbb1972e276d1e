-- The places are those of the members reached so far. A place that is filled is used up.
use Rattle.std.{proofs.Common.{◌+◌, ◌≡◌, length}, specs.Prelude.vec_len}
use Rattle.olap_legal.specs.Rows.{IsFrontier, free_count}
use Rattle.olap_legal.proofs.rising.rise.Given as goal

abbrev pub invariant-listed : goal.invariant-listed
invariant-listed l = record {
  size : length l.row.items ≡ vec_len l.fn.row;
  frontier : IsFrontier l.instance l.x l.row.items l.list.items;
}

abbrev pub decreases-listed : goal.decreases-listed
decreases-listed l = free_count l.row.items + length l.list.items
