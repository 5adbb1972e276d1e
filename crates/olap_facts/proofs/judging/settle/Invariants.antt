-- The records so far were looked up.
use Rattle.std.proofs.Common.{◌≡◌, ℕ, ◌+◌, ◌≤◌, ◌++◌, true, List, length, map, take}
use Rattle.olap_base.specs.Views.{Fact, IsFactTable}
use Rattle.olap_facts.specs.{Feeding.Counted, Pending.ArePending, Seen.fact_of}
use Rattle.olap_facts.proofs.judging.settle.Given as goal

abbrev pub invariant-records : goal.invariant-records
invariant-records l = record {
  more : length l.batch.items ≡ length l.fn.batch.items + l.k;
  few : l.handed + l.k ≤ l.setting.most;
  table : IsFactTable l.setting.graph.now l.setting.instance.now (map fact_of l.fn.batch.items)
      → IsFactTable l.setting.graph.now l.setting.instance.now (map fact_of l.batch.items);
  counts : (rows done : List (List (List ℕ))) (facts : List (Fact ℕ)) → ArePending rows l.pending
      → Counted l.setting.most l.setting.graph.now l.setting.instance.now l.handed true done
      (facts ++ map fact_of l.fn.batch.items)
      → Counted l.setting.most l.setting.graph.now l.setting.instance.now (l.handed + l.k) true (done ++ take l.k rows)
      (facts ++ map fact_of l.batch.items);
}
