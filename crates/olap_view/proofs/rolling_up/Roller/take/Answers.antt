-- A piece more, or a refusal of the whole text.
use Rattle.std.proofs.{Common.{List, ◌++◌, map, subst, sym}, lemmas.Result.err_from_is_err_and}
use Rattle.olap_facts.specs.Seen.{fact_of}
use Rattle.olap_view.{proofs.RollerLemmas.{refused-by, taken-more}, specs.RollingUp.HasTaken, specs.Tallies.StandsFor}
use Rattle.olap_facts.specs.declared.tables.Fact as told
use Rattle.olap_view.proofs.rolling_up.Roller.take.Goals as goal

pub returns-in_err-take : goal.returns-in_err-take
returns-in_err-take c = record {
  takes = λ g i categories fed h.
      let k = subst (HasTaken g i categories fed) (sym c.self.view_is) h in
      let stop = err_from_is_err_and c.from_residual.result c.from_residual.ensures.1 in
      rw (stop.1, stop.2) (λ more.
      refused-by g i categories fed c.self.inside.feed c.self.inside.tally c.self.invariant k
      ((fed ++ c.args.piece.now) ++ more) c.in_err-take.field-0.0
      (c.in_err-take.ensures.feeds fed k.facts k.reads more));
}

pub returns : goal.returns
returns c = record {
  takes = λ g i categories fed h.
      let k = subst (HasTaken g i categories fed) (sym c.self.view_is) h in
      let after = c.add_all.new.self in
      taken-more g i categories fed c.self.inside.feed c.self.inside.tally c.self.invariant k c.args.piece.now
      (map fact_of c.take.new.batch.items) c.take.new.self after c.in_ok-take.ensures.same
      c.add_all.ensures.categories (c.in_ok-take.ensures.feeds fed k.facts k.reads)
      (subst (λ (fs : List told.Fact). StandsFor after (k.facts ++ map fact_of fs)) c.as_slice.ensures.value
      (c.add_all.ensures.stands k.facts k.stands));
}
