-- A piece more, or a refusal of the whole text.
use Rattle.std.proofs.Common.{◌++◌, List, map, subst, sym}
use Rattle.olap_facts.specs.{Feeding.fed_read, Seen.fact_of}
use Rattle.olap_delta.{proofs.TextLemmas.{refused-by, taken-more}, specs.Changing.step_of}
use Rattle.olap_delta.specs.Taking.{AreIn, HasTakenText, text_change}
use Rattle.olap_facts.specs.declared.tables.Fact as told
use Rattle.olap_delta.proofs.texts.Changer.take.Goals as goal

pub returns-in-Err : goal.returns-in-Err
returns-in-Err c = record {
  takes = λ by g i views most fed h more.
      let w = text_change c.self.inside.base c.self.inside.feed c.self.inside.taken in
      let k = subst (HasTakenText by g i views most fed) (sym c.self.view_is) h in
      let text = (fed ++ c.args.piece.now) ++ more in
      refused-by by g i views most fed w c.self.invariant k text c.of_text.result
      (c.of_text.ensures (step_of w.change) w.instance w.views (fed_read w.feed text)
      (c.in-Err.ensures.feeds fed k.facts k.is_fed more));
}

pub returns : goal.returns
returns c = record {
  takes = λ by g i views most fed h.
      let w = text_change c.self.inside.base c.self.inside.feed c.self.inside.taken in
      let k = subst (HasTakenText by g i views most fed) (sym c.self.view_is) h in
      let after = c.in_ok-taken.taken in
      taken-more by g i views most fed w c.self.invariant k c.args.piece.now (map fact_of c.take.new.batch.items)
      c.take.new.self after c.take.ensures.same (c.in_default.ensures.feeds fed k.facts k.is_fed)
      (subst (λ (fs : List told.Fact). AreIn w.change w.instance w.views (k.facts ++ map fact_of fs) after)
      c.deref.ensures.value (c.in_ok-taken.ensures.facts k.facts k.are));
}
