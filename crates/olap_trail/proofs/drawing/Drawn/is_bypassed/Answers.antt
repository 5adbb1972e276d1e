-- A parent of the first edge's child is beyond its parent.
use Rattle.std.proofs.Common.{inl, inr, refl}
use Rattle.olap_bits.specs.Sets.{members}
use Rattle.olap_trail.proofs.DrawnLemmas.{bypassed_here}
use Rattle.olap_trail.proofs.drawing.Drawn.is_bypassed.Goals as goal

pub returns-then-first-new : goal.returns-then-first-new
returns-then-first-new g c =
    bypassed_here c.self.inside c.self.invariant c.self.view_is c.args.new (members c.args.through.now)
    c.requires.through c.args.first.child.0 c.args.first.parent.0 c.from-2.result c.from.result c.index.result.now
    c.index-2.result.now (members c.grown-beyond.result) (members c.with.result) c.meets.result c.requires.child
    c.requires.parent c.from.ensures c.index.ensures c.grown-beyond.ensures c.from-2.ensures c.index-2.ensures
    (inl (c.if-first-new.true, c.with.ensures)) c.meets.ensures

pub returns-else-first-new : goal.returns-else-first-new
returns-else-first-new g c =
    bypassed_here c.self.inside c.self.invariant c.self.view_is c.args.new (members c.args.through.now)
    c.requires.through c.args.first.child.0 c.args.first.parent.0 c.from-2.result c.from.result c.index.result.now
    c.index-2.result.now (members c.grown-beyond.result) (members c.index-2.result.now) c.meets-else-first-new.result
    c.requires.child c.requires.parent c.from.ensures c.index.ensures c.grown-beyond.ensures c.from-2.ensures
    c.index-2.ensures (inr (c.if-first-new.false, refl)) c.meets-else-first-new.ensures
