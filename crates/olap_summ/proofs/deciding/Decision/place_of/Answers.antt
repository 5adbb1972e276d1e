use Rattle.std.proofs.Common.{ap, below_more, sym, ◌∙◌}
use Rattle.olap_summ.{proofs.DecisionLemmas.{first_names, place_within, root_at}, specs.declared.deciding.Asked.Asked}
use Rattle.olap_summ.proofs.deciding.Decision.place_of.Goals as goal

pub searches-preserved : goal.searches-preserved
searches-preserved c =
    let xs = c.args.self.now.searches.items in
    let within = place_within xs c.args.root.0 c.searches.place c.requires c.searches.invariant in
    below_more _ _ c.searches.invariant (λ q. c.searches-test.true (ap (λ (a : Asked). a.root.0) c.index.ensures
    ∙ sym (root_at xs c.searches.place c.index.result.now within) ∙ q))

pub returns-clause-within : goal.returns-clause-within
returns-clause-within c =
    place_within c.args.self.now.searches.items c.args.root.0 c.searches.place c.requires c.searches.invariant

pub returns-clause-names : goal.returns-clause-names
returns-clause-names c = λ d.
    let within = place_within xs c.args.root.0 place c.requires c.searches.invariant in
    sym (first_names xs place c.args.root.0 d within c.searches.invariant (sym (root_at xs place d within)
    ∙ root_at xs place c.index.result.now within ∙ sym (ap (λ (a : Asked). a.root.0) c.index.ensures)
    ∙ c.searches-test.false))
  where
    open c use {args.self.now.searches.items as xs, searches.place}
