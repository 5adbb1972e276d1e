-- One edge after the other, at all places at once.
use Rattle.std.proofs.Common.{subst}
use Rattle.olap_bits.specs.Sets.{members}
use Rattle.olap_check.proofs.WayLemmas.{IsAlong, along_done, along_more, along_start}
use Rattle.olap_eval.proofs.ShapeLemmas.{numbers, rest_is, rest_none}
use Rattle.olap_check.proofs.blocks.Block.along.Goals as goal

pub path-init : goal.path-init
path-init c =
    let b = c.args.self.now in (
      c.requires,
      along_start b.instance.now b.categories b.root.0 b.start b.table.now b.part.now (members b.all) b.sound
          (numbers c.args.categories.now),
    )

pub path-preserved : goal.path-preserved
path-preserved c =
    let b = c.args.self.now in
    let path = numbers c.args.categories.now in
    let truths = members c.path.truths in
    let goes_on = subst (λ l. IsAlong b.instance.now b.categories b.table.now b.part.now path truths
    c.path.at.0 l) (rest_is c.args.categories.now c.path.c-index c.path-test.true) c.path.invariant.1 in (
      c.narrowed-truths.ensures.seen,
      along_more b.instance.now b.categories b.root.0 b.start b.table.now b.part.now (members b.all) b.sound goes_on
          (members c.narrowed-truths.result) c.narrowed-truths.ensures.places,
    )

pub returns-clause-places : goal.returns-clause-places
returns-clause-places c =
    let b = c.args.self.now in
    along_done b.instance.now b.categories b.root.0 b.start b.table.now b.part.now (members b.all) b.sound
    c.path.invariant.1
    (rest_none c.args.categories.now c.path.c-index c.path-test.false)
