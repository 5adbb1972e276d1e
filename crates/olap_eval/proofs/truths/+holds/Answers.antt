-- The atoms: what a shape answers is the truth of the atom.
use Rattle.std.proofs.{Common.{rules, w64}, lemmas.Int.to_z-of_z}
use Rattle.olap_eval.proofs.ShapeLemmas.{reach_truth, via_truth, via_stops, named_truth, named_stops, numbered_truth, numbered_stops}
use mir.Val.{SFits}
use Rattle.olap_eval.proofs.truths.+holds.Goals as goal

pub holds-returns-in-Reach : goal.holds-returns-in-Reach
holds-returns-in-Reach g t c =
    let shape = g.met.S.Shape.shape c.args.s.now in
    reach_truth shape _ c.requires _ c.in-Reach.is c.reaches.ensures

pub holds-returns-then-reaches : goal.holds-returns-then-reaches
holds-returns-then-reaches g t c =
    let shape = g.met.S.Shape.shape c.args.s.now in
    let second = c.reaches-then-reaches.ensures in
    via_truth shape _ c.requires _ c.in-Via.is c.reaches-in-Via.ensures _ c.if-reaches.true second

pub holds-returns-else-reaches : goal.holds-returns-else-reaches
holds-returns-else-reaches g t c =
    let shape = g.met.S.Shape.shape c.args.s.now in
    via_stops shape _ c.requires _ c.in-Via.is c.reaches-in-Via.ensures c.if-reaches.false

pub holds-returns-then-reaches-2 : goal.holds-returns-then-reaches-2
holds-returns-then-reaches-2 g t c =
    let shape = g.met.S.Shape.shape c.args.s.now in
    let first = c.reaches-in-Equals.ensures in
    named_truth shape _ c.requires _ c.in-Equals.is first _ c.if-reaches-2.true c.name_is.ensures

pub holds-returns-else-reaches-2 : goal.holds-returns-else-reaches-2
holds-returns-else-reaches-2 g t c =
    let shape = g.met.S.Shape.shape c.args.s.now in
    named_stops shape _ c.requires _ c.in-Equals.is c.reaches-in-Equals.ensures c.if-reaches-2.false

pub holds-returns-then-reaches-3 : goal.holds-returns-then-reaches-3
holds-returns-then-reaches-3 g t c =
    let shape = g.met.S.Shape.shape c.args.s.now in
    let first = c.reaches-in-Compare.ensures in
    let fits : SFits w64 c.in-Compare.n = search rules in
    numbered_truth shape _ c.requires _ c.in-Compare.is first _ c.if-reaches-3.true
    (rw (to_z-of_z w64 c.in-Compare.n fits) at c.number_is.ensures)

pub holds-returns-else-reaches-3 : goal.holds-returns-else-reaches-3
holds-returns-else-reaches-3 g t c =
    let shape = g.met.S.Shape.shape c.args.s.now in
    numbered_stops shape _ c.requires _ c.in-Compare.is c.reaches-in-Compare.ensures c.if-reaches-3.false
