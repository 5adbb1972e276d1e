-- The bytes so far were taken.
use Rattle.std.proofs.Common.{◌≡◌, ℕ, ◌≤◌, ◌-◌, ◌++◌, List, length, take}
use Rattle.olap_cube_views.specs.{CubeFeeding.{HasTakenFacts, cube_rolling}, Dimensions.{graphs_of, instances_in}}
use Rattle.olap_cube_views.proofs.rolling.Front.take.Given as goal

abbrev pub invariant-records : goal.invariant-records
invariant-records l = record {
  at : l.at ≤ length l.piece;
  instances : l.self.tally.instances ≡ l.fn.self.tally.instances;
  target : l.self.tally.target ≡ l.fn.self.tally.target;
  taken : (target fed : List ℕ) → HasTakenFacts (graphs_of l.graphs) (instances_in l.columns) target fed
      (cube_rolling (graphs_of l.graphs) l.fn.self.begun l.fn.self.splitter.stands l.fn.self.tally)
      → HasTakenFacts (graphs_of l.graphs) (instances_in l.columns) target (fed ++ take l.at l.piece)
      (cube_rolling (graphs_of l.graphs) l.self.begun l.self.splitter.stands l.self.tally);
}

abbrev pub decreases-records : goal.decreases-records
decreases-records l = length l.piece - l.at
