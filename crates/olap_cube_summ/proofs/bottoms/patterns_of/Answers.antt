use Rattle.olap_cube_summ.{proofs.BottomLemmas.{each_with, fewer_out}, specs.Found.chosen_of}
use Rattle.olap_cube_summ.specs.Patterns.{IsPatternOf}
use Rattle.olap_schema.specs.Schemas.{schema_of}
use Rattle.olap_cube_summ.proofs.bottoms.patterns_of.Goals as goal

pub patterns-init : goal.patterns-init
patterns-init c = record {
  sound = c.in_ok-patterns.ensures;
  room = c.requires.room;
}

pub patterns-smaller : goal.patterns-smaller
patterns-smaller c =
    let other = rw c.in-Some.is at c.in_ok-found.ensures.some in
    fewer_out c.patterns.patterns c.with-patterns.result c.pattern-new.result c.pattern-new.ensures.small
    c.with-patterns.ensures (λ i. other.new (c.pattern-new.result, i, c.pattern-new.ensures.pattern))

pub patterns-preserved : goal.patterns-preserved
patterns-preserved c =
    let other = rw c.in-Some.is at c.in_ok-found.ensures.some in record {
      sound = each_with c.patterns.patterns c.with-patterns.result c.pattern-new.result c.pattern-new.ensures.small
          c.with-patterns.ensures (IsPatternOf (schema_of c.args.schema.now) c.args.question.now c.args.root.0)
          (chosen_of c.in-Some.found, other.is_found.chosen, other.root, c.pattern-new.ensures.pattern)
          c.patterns.invariant.sound;
      room = c.pattern-new.ensures.room;
    }
