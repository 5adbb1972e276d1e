use Rattle.std.proofs.Common.{◌-◌, arith, length, length-drop}
use Rattle.olap_outside.proofs.Writing.{appends_on, takes_on}
use Rattle.olap_outside.proofs.emitting.emit.Goals as goal

pub writes-preserved : goal.writes-preserved
writes-preserved g c = record {
  within = omega (arith, c.in_ok-done.ensures.bound, length-drop c.writes.done c.args.bytes.now);
  written = appends_on _ _ _ _ _ _ c.writes.invariant.written c.in_ok-done.ensures.written;
  later = omega arith;
  sure = λ h.
      let all = length c.args.bytes.now in
      let done = c.writes.done in
      takes_on (g.K.Sink.takes c.write.new.self) all done c.in_ok-done.field-0
      (c.in_ok-done.ensures.surely (all - done) (c.writes.invariant.sure h)
      (omega (arith, length-drop done c.args.bytes.now)));
}
