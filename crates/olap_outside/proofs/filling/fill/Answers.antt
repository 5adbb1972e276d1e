-- More bytes stand in the piece.
use Rattle.std.{proofs.Common.{◌-◌, ◌∙◌, ap, arith, length, take}, specs.Prelude.is_ok}
use Rattle.olap_outside.proofs.FillingLemmas.{consumes-more, filled, rest-size}
use borrow.Rule.Slice.PartMut.{same_len_mid}
use Rattle.olap_outside.proofs.filling.fill.Goals as goal

pub fills-preserved : goal.fills-preserved
fills-preserved g c =
    let lib = g.L.Library in
    let same = same_len_mid at (length piece - at) piece buf c.read.auto.buf in
    let size = rest-size at piece buf c.read.auto.buf in
    let bound = c.in_ok-count.ensures.bound in
    let stands = filled at (length piece - at) n piece buf inv.at bound in
    record {
      at = omega (arith, same, size, bound, inv.at);
      size = same ∙ inv.size;
      bytes = rw stands (consumes-more (lib.rest c.args.lib.now) (lib.rest c.fills.lib) (lib.rest c.read.new.self)
          (take at piece) (take n buf) (length buf) inv.bytes c.in_ok-count.ensures.bytes);
      taken = omega (arith, inv.taken, c.in_ok-count.ensures.taken);
      few = λ _. c.in_ok-count.ensures.few;
      ready = c.read.ensures.ready ∙ ap is_ok c.in_ok-count.was;
      later = omega (arith, inv.later, c.read.ensures.cause.later);
      kept = record {
        contents = c.read.ensures.contents ∙ inv.kept.contents;
        asked = c.read.ensures.asked ∙ inv.kept.asked;
        sure = c.read.ensures.sure ∙ inv.kept.sure;
      };
    }
  where
    open c use {fills.invariant as inv, fills.at, fills.piece, read.new.buf, in_ok-count.count as n}
