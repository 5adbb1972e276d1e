-- The entry stands at the place of its atom.
use Rattle.std.proofs.Common.{length, arith, ◌<◌}
use Rattle.olap_check.proofs.SeenLemmas.{right_more}
use Rattle.olap_check.proofs.seen.Seen.keep.Goals as goal

pub returns-then-k-len : goal.returns-then-k-len
returns-then-k-len c = λ i seen kept.
    let s = c.args.self.now in
    let inside : c.in-Some.k < length s.entries.items =
    let ok = s.entries.ok in omega (arith, ok, c.len.ensures, c.if-k-len.true) in
    right_more i s.atoms.items s.entries.items c.in-Some.k c.args.asked c.args.entry inside c.in-Some.ensures seen kept
