-- The bytes so far were taken, and their facts are in the batch.
use Rattle.std.proofs.Common.{◌≡◌, ℕ, ◌+◌, ◌≤◌, ◌-◌, ◌++◌, true, List, length, map, take}
use Rattle.olap_base.specs.Views.{Fact, IsFactTable}
use Rattle.olap_facts.specs.{Feeding.{Fed, feeding_in}, Seen.fact_of}
use Rattle.olap_facts.proofs.fronts.Front.take_many.Given as goal

abbrev pub invariant-pieces : goal.invariant-pieces
invariant-pieces l = record {
  at : l.at ≤ length l.piece;
  handed : l.self.handed ≡ l.fn.self.handed + length l.batch.items;
  few : l.self.handed ≤ l.setting.most;
  begun : l.self.begun ≡ true;
  table : IsFactTable l.setting.graph.now l.setting.instance.now (map fact_of l.batch.items);
  fed : (fed : List ℕ) (facts : List (Fact ℕ))
      → Fed (feeding_in l.setting l.fn.self.splitter l.fn.self.handed l.fn.self.begun) fed facts
      → Fed (feeding_in l.setting l.self.splitter l.self.handed l.self.begun) (fed ++ take l.at l.piece)
      (facts ++ map fact_of l.batch.items);
}

abbrev pub decreases-pieces : goal.decreases-pieces
decreases-pieces l = length l.piece - l.at
