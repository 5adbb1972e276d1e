-- The tally stands for the facts.
use Rattle.std.proofs.Common.{rules, ◌≡◌, ℕ, [], List, map, ap, subst, ◌∙◌, arith}
use Rattle.olap_base.{proofs.GeneralLemmas.if_ok, proofs.ListLemmas.contains_head, specs.Instance.Instance}
use Rattle.olap_base.specs.Views.{Fact, direct_view, members}
use Rattle.olap_facts.specs.Seen.{fact_of, facts_of}
use Rattle.olap_view.specs.{Seen.view_of, Tallies.StandsFor}
use Rattle.olap_facts.specs.declared.tables.Fact as told_fact
use Rattle.olap_view.specs.declared.views.View as told
use Rattle.olap_view.proofs.viewing.direct.Goals as goal

pub add_all-requires-clause-members : goal.add_all-requires-clause-members
add_all-requires-clause-members c = search rules

pub add_all-requires-clause-room : goal.add_all-requires-clause-room
add_all-requires-clause-room c = search rules

pub into_view-requires : goal.into_view-requires
into_view-requires c = grind (arith, contains_head)

pub returns-clause-view : goal.returns-clause-view
returns-clause-view c =
    let facts = facts_of c.args.facts.now in
    let stands : StandsFor t facts =
    subst (λ (l : List told_fact.Fact). StandsFor t (map fact_of l)) c.items.ensures
    (c.add_all.ensures.stands [] c.in_ok-tally.ensures.stands) in
    if_ok c.into_view.result
    (λ (v : told.View). (fs : List (Fact ℕ)) → StandsFor t fs → view_of v ≡ direct_view (members t.instance) fs d)
    (λ (v : told.View). view_of v ≡ direct_view (members i) facts d)
    (λ v e. e facts stands
    ∙ ap (λ (j : Instance). direct_view (members j) facts d)
    (c.add_all.ensures.instance ∙ c.in_ok-tally.ensures.instance))
    c.into_view.ensures.view
  where
    open c use {args.legal.now as i, args.c.0 as d, add_all.new.self as t}

pub returns-clause-members : goal.returns-clause-members
returns-clause-members c = search rules
