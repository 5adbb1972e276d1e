-- One fact more, which waits or goes into the table.
use Rattle.std.proofs.Common.{◌+◌, ◌++◌, ◌∷◌, ◌<◌, ◌≤◌, [], ap, length, sym, subst, ◌∙◌, arith, rules, w64}
use Rattle.std.proofs.lemmas.Int.{to_z-of_z}
use Rattle.olap_base.specs.{Limits.most_count, Reaching.reaches, Summaries.{of_value, ◌⊕◌}}
use Rattle.olap_facts.specs.Seen.{fact_of}
use Rattle.olap_view.proofs.TallyLemmas.{added_in_table, added_in_waiting, beside_waiting, stands_more, tally_in_table, tally_in_waiting}
use Rattle.olap_view.{proofs.tallies.Tally.add.Goals.{then-x-len, else-x-len}, specs.SummaryTables.stands_at}
use Rattle.olap_view.specs.{Tables.when, Tallies.{IsTally, StandsFor, Tallied, tallied}}
use mir.Val.{SFits}
use Rattle.olap_view.specs.declared.tallies.Tally.TheInside as tally
use Rattle.olap_view.proofs.tallies.Tally.add.Goals as goal

pub invariant_of-self : goal.invariant_of-self
invariant_of-self c =
    let a = c.self.inside in
    let f = fact_of c.args.fact.now in
    let few : a.added + 1 ≤ most_count =
    let r = c.requires.room in let e = ap (λ (t : Tallied). t.added) c.self.view_is in omega arith in
    let fits : SFits w64 c.args.fact.now.value = search rules in
    let alone = c.of_value-alone.ensures ∙ ap of_value (to_z-of_z w64 c.args.fact.now.value fits) in
    elim c.if-x-len.branch [
      | then-x-len w ↦
          let inside : c.args.fact.now.member.0 < length a.waiting.items =
          let t = w.if-x-len.true in let e = c.len.ensures in omega arith in
          let j = beside_waiting f w.index.result.now c.of_value-alone.result w.beside.result a.waiting.items inside
          w.index.ensures alone w.beside.ensures in
          subst (λ (s : tally.Inside). IsTally s.table s.waiting.items (s.added + 1)) (sym w.self-inside-is)
          (tally_in_waiting a.table a.waiting.items _ a.added f _ j few fits c.self.invariant)
      | else-x-len w ↦
          subst (λ (s : tally.Inside). IsTally s.table s.waiting.items (s.added + 1)) (sym w.self-inside-is)
          (tally_in_table a.table w.join.new.self a.waiting.items a.added f (record {
            instance = w.join.ensures.instance;
            categories = w.join.ensures.categories;
            at = λ y m. w.join.ensures.at y m
                ∙ ap (λ s. stands_at a.table y ⊕ when (reaches a.table.instance f.at y) s) alone;
          }) few fits c.self.invariant)
    ]

pub returns-clause-stands : goal.returns-clause-stands
returns-clause-stands c = λ facts before.
    let a = c.self.inside in
    let f = fact_of c.args.fact.now in
    let fits : SFits w64 c.args.fact.now.value = search rules in
    let alone = c.of_value-alone.ensures ∙ ap of_value (to_z-of_z w64 c.args.fact.now.value fits) in
    let stood = subst (λ (t : Tallied). StandsFor t facts) (sym c.self.view_is) before in
    elim c.if-x-len.branch [
      | then-x-len w ↦
          let inside : c.args.fact.now.member.0 < length a.waiting.items =
          let t = w.if-x-len.true in let e = c.len.ensures in omega arith in
          let j = beside_waiting f w.index.result.now c.of_value-alone.result w.beside.result a.waiting.items inside
          w.index.ensures alone w.beside.ensures in
          subst (λ (s : tally.Inside). StandsFor (tallied s.table s.waiting.items (s.added + 1)) (facts ++ f ∷ []))
          (sym w.self-inside-is)
          (stands_more (tallied a.table a.waiting.items a.added) _ f facts
          (added_in_waiting a.table a.waiting.items _ a.added f _ j) stood)
      | else-x-len w ↦
          subst (λ (s : tally.Inside). StandsFor (tallied s.table s.waiting.items (s.added + 1)) (facts ++ f ∷ []))
          (sym w.self-inside-is)
          (stands_more (tallied a.table a.waiting.items a.added) _ f facts
          (added_in_table a.table w.join.new.self a.waiting.items a.added f (record {
            instance = w.join.ensures.instance;
            categories = w.join.ensures.categories;
            at = λ y m. w.join.ensures.at y m
                ∙ ap (λ s. stands_at a.table y ⊕ when (reaches a.table.instance f.at y) s) alone;
          })) stood)
    ]
