-- The sets of the categories so far are copied and grown.
use Rattle.olap_bits.specs.Sets.{members}
use Rattle.olap_trail.proofs.StageLemmas.{AreCopied}
use Rattle.olap_trail.proofs.drawing.draw.Given as goal

abbrev pub invariant-categories : goal.invariant-categories
invariant-categories g l = AreCopied l.initial.rows l.rows l.place l.count l.c (members l.through) l.x
