-- The views of the tally are those of the text, or its first fault.
use Rattle.std.proofs.{Common.{◌≡◌, ℕ, ◌∷◌, [], List, ap, subst, sym}, lemmas.Result.err_from_is_err_and}
use Rattle.olap_base.specs.Views.{Fact}
use Rattle.olap_facts.specs.{Feeding.facts_if, Seen.fact_of}
use Rattle.olap_view.proofs.RollerLemmas.{IsAdded, no-fact, none-added, refused-by, rolled-up}
use Rattle.olap_view.{proofs.rolling_up.Roller.finish.Goals.{in-Some, in_default}, specs.RollingUp.HasTaken}
use Rattle.olap_view.specs.{Seen.each_view_of, Tallies.Tallied}
use Rattle.olap_view.proofs.rolling_up.Roller.finish.Goals as goal

pub returns-in_err-fact-clause-views : goal.returns-in_err-fact-clause-views
returns-in_err-fact-clause-views c = λ g i categories fed h.
    let k = subst (HasTaken g i categories fed) (sym c.self.view_is) h in
    let stop = err_from_is_err_and c.from_residual.result c.from_residual.ensures.1 in
    rw (stop.1, stop.2) (refused-by g i categories fed c.self.inside.feed c.self.inside.tally c.self.invariant k fed
    c.in_err-fact.field-0.0 (c.in_err-fact.ensures.reads fed k.facts k.reads))

pub returns-clause-views : goal.returns-clause-views
returns-clause-views c = λ g i categories fed h.
    let k = subst (HasTaken g i categories fed) (sym c.self.view_is) h in
    let added : IsAdded tally after k.facts (facts_if last) =
    elim c.match-branch-2.branch [
      | in-Some w ↦
          let f = w.in-Some.fact in
          let same : w.add.new.self ≡ after = cc in
          let one : fact_of f ∷ [] ≡ facts_if last = sym (ap facts_if w.in-Some.is) in
          subst (λ (fs : List (Fact ℕ)). IsAdded tally after k.facts fs) one
          (subst (λ (t : Tallied). IsAdded tally t k.facts (fact_of f ∷ [])) same (record {
            instance = w.add.ensures.instance;
            categories = w.add.ensures.categories;
            stands = w.add.ensures.stands k.facts k.stands;
          }))
      | in_default w ↦
          let same : tally ≡ after = cc in
          subst (λ (fs : List (Fact ℕ)). IsAdded tally after k.facts fs) (no-fact last w.in_default.not-Some)
          (subst (λ (t : Tallied). IsAdded tally t k.facts []) same (none-added tally k.facts k.stands))
    ] in
    rolled-up g i categories fed feed tally c.self.invariant k (facts_if last) after
    (each_view_of c.in_ok-into_views.field-0) (c.in_ok-fact.ensures.reads fed k.facts k.reads) added
    c.in_ok-into_views.ensures.views
  where
    open c use {self.inside.feed, self.inside.tally, in_ok-fact.field-0 as last, match-branch-2.tally as after}
