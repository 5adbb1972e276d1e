use Rattle.std.{proofs.Common.{length, ◌-◌, ◌≤◌, take, IsTrue}, specs.Io.KnownBytes.Appends}
use Rattle.olap_outside.proofs.emitting.emit.Given as goal

-- what is done so far is written, the count hasn't fallen, and a sink that was sure to take all takes the rest
abbrev pub invariant-writes : goal.invariant-writes
invariant-writes g l =
    let contents = g.K.Sink.contents in
    let faults = g.K.Sink.faults in
    let takes = g.K.Sink.takes in
    record {
      within : l.done ≤ length l.bytes;
      written : Appends (contents l.fn.sink) (contents l.sink) (take l.done l.bytes);
      later : faults l.fn.sink ≤ faults l.sink;
      sure : IsTrue (takes l.fn.sink (length l.bytes)) → IsTrue (takes l.sink (length l.bytes - l.done));
    }

-- how much is still to be written
abbrev pub decreases-writes : goal.decreases-writes
decreases-writes g l = length l.bytes - l.done
