-- One fact more, in the table.
use Rattle.std.proofs.{Common.{◌+◌, ◌≤◌, ap, sym, subst, ◌∙◌, arith, rules, w64}, lemmas.Int.to_z-of_z}
use Rattle.olap_base.specs.{Limits.most_count, Reaching.reaches, Summaries.{of_value, ◌⊕◌}}
use Rattle.olap_facts.specs.Seen.{fact_of}
use Rattle.olap_view.{proofs.TallyLemmas.{added_in_table, stands_more, tally_in_table}, specs.SummaryTables.stands_at}
use Rattle.olap_view.specs.{Tables.when, Tallies.{StandsFor, Tallied, tallied}}
use mir.Val.{SFits}
use Rattle.olap_view.proofs.tallies.Tally.add_to_table.Goals as goal

pub invariant_of-self : goal.invariant_of-self
invariant_of-self c =
    let a = c.self.inside in
    let f = fact_of c.args.fact.now in
    let few : a.added + 1 ≤ most_count =
    let r = c.requires.room in let e = ap (λ (t : Tallied). t.added) c.self.view_is in omega arith in
    let fits : SFits w64 c.args.fact.now.value = search rules in
    tally_in_table a.table c.join.new.self a.waiting.items a.added f (record {
      instance = c.join.ensures.instance;
      categories = c.join.ensures.categories;
      at = λ y m. c.join.ensures.at y m
          ∙ ap (λ s. stands_at a.table y ⊕ when (reaches a.table.instance f.at y) s)
          (c.of_value.ensures ∙ ap of_value (to_z-of_z w64 c.args.fact.now.value fits));
    }) few fits c.self.invariant

pub returns-clause-stands : goal.returns-clause-stands
returns-clause-stands c = λ facts s.
    let a = c.self.inside in
    let f = fact_of c.args.fact.now in
    let fits : SFits w64 c.args.fact.now.value = search rules in
    stands_more (tallied a.table a.waiting.items a.added) _ f facts
    (added_in_table a.table c.join.new.self a.waiting.items a.added f (record {
      instance = c.join.ensures.instance;
      categories = c.join.ensures.categories;
      at = λ y m. c.join.ensures.at y m
          ∙ ap (λ s. stands_at a.table y ⊕ when (reaches a.table.instance f.at y) s)
          (c.of_value.ensures ∙ ap of_value (to_z-of_z w64 c.args.fact.now.value fits));
    })) (subst (λ (t : Tallied). StandsFor t facts) (sym c.self.view_is) s)
