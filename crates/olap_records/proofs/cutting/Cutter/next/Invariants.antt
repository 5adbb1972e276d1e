-- The cutter stands where the bytes so far lead, with those at hand that aren't copied yet.
use Rattle.std.proofs.Common.{◌≡◌, ◌≤◌, ◌-◌, ◌++◌, false, length, take, []}
use Rattle.csv.specs.Records.{fields_of, partial_of}
use Rattle.olap_records.{proofs.RunLemmas.between, specs.CutterInside.{stand_by, stand_of}, specs.Standing.standing}
use Rattle.olap_records.proofs.cutting.Cutter.next.Given as goal

abbrev pub invariant-bytes : goal.invariant-bytes
invariant-bytes l = record {
  part : l.self.whole ≡ false;
  from : l.from ≤ l.at;
  at : l.at ≤ length l.piece;
  stands : standing (stand_of [] l.fn.self) (take l.at l.piece)
      ≡ stand_by [] l.self.whole (fields_of l.self.row)
      (partial_of l.self.row ++ (l.self.field.items ++ between l.from l.at l.piece)) l.self.place;
}

abbrev pub decreases-bytes : goal.decreases-bytes
decreases-bytes l = length l.piece - l.at
