-- The records so far were cut off the bytes so far.
use Rattle.std.proofs.Common.{◌≤◌, ◌<◌, ◌-◌, length, take}
use Rattle.olap_facts.specs.Pending.{HasCut}
use Rattle.olap_facts.proofs.pending.Pending.cut.Given as goal

abbrev pub invariant-records : goal.invariant-records
invariant-records l = record {
  at : l.at ≤ length l.piece;
  some : 0 < length l.self.told.items → 0 < l.at;
  cut : HasCut l.fn.splitter.stands (take l.at l.piece) l.splitter.stands l.self;
}

abbrev pub decreases-records : goal.decreases-records
decreases-records l = 256 - length l.self.told.items
