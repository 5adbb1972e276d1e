-- At each place the path goes on from the category reached so far, or is no longer there.
use Rattle.std.proofs.Common.{drop}
use Rattle.olap_bits.specs.Sets.{members}
use Rattle.olap_check.{proofs.WayLemmas.IsAlong, specs.Seen.IsSeen}
use Rattle.olap_eval.proofs.ShapeLemmas.{numbers}
use Rattle.olap_check.proofs.blocks.Block.along.Given as goal

abbrev pub invariant-path : goal.invariant-path
invariant-path l =
    let b = l.self in
    IsSeen b.instance.now l.seen
    × IsAlong b.instance.now b.categories b.table.now b.part.now (numbers l.categories)
    (members l.truths) l.at.0 (numbers (drop l.c-index l.categories))
