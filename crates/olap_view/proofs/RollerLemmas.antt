-- A roller takes a piece more, and the text ends.
use Rattle.std.proofs.Common.{rules, ◌≡◌, ◌++◌, ◌∙◌, [], ℕ, List, Option, None, Some, MatchResult, ap, map, refl, subst, sym}
use Rattle.std.{proofs.lemmas.List.append-nil, specs.Prelude.{Ok, Err, Result}}
use Rattle.olap_base.specs.{Graph.Graph, Instance.Instance, Limits.most_facts, Refusing.IsRefusedBy}
use Rattle.olap_base.specs.{Views.{Fact, View, direct_view, members}, declared.refusals.Fault.Fault}
use Rattle.olap_base.specs.declared.refusals.Refusal.{Refusal}
use Rattle.olap_records.specs.Standing.{records_fed, unmarked}
use Rattle.olap_facts.specs.{FactText.facts_read_within, Feeding.{Fed, Feeding, IsSameSetting, facts_if, fed_read}}
use Rattle.olap_facts.specs.declared.kinds.FactKind.{FactKind}
use Rattle.olap_view.specs.{RollingUp.{AreRolledUp, HasTaken, IsRoller, Rolling, rolling}, Tallies.{StandsFor, Tallied}}
use Rattle.olap_facts.specs.declared.tables.Fact as told

-- what a feed's text stands for, by what the feed reads against
pub read-by : (g : Graph) (i : Instance) (f : Feeding) → f.graph ≡ g → f.instance ≡ i → f.most ≡ most_facts
    → (text : List ℕ) → fed_read f text ≡ facts_read_within most_facts g i (records_fed text)
read-by g i f eg ei em text = search rules

-- a whole text is one piece
pub whole-taken : (g : Graph) (i : Instance) (categories piece text : List ℕ) → piece ≡ unmarked text
    → (result : Result Rolling (Refusal (Fault FactKind))) → MatchResult result (HasTaken g i categories piece)
    (λ e. (more : List ℕ) → IsRefusedBy e (facts_read_within most_facts g i (records_fed (piece ++ more))))
    → MatchResult result (HasTaken g i categories (unmarked text))
    (λ e. IsRefusedBy e (facts_read_within most_facts g i (records_fed (unmarked text))))
whole-taken g i categories piece text same (Ok r) h = subst (λ (fed : List ℕ). HasTaken g i categories fed r) same h
whole-taken g i categories piece text same (Err e) h =
    subst (λ (fed : List ℕ). IsRefusedBy e (facts_read_within most_facts g i (records_fed fed)))
    (append-nil piece ∙ same) (h [])

-- a tally that stood for some facts has these facts more
pub record IsAdded (before after : Tallied) (facts more : List (Fact ℕ)) : Type 0 where
  pub instance : after.instance ≡ before.instance
  pub categories : after.categories ≡ before.categories
  pub stands : StandsFor after (facts ++ more)

-- none is added
pub none-added : (t : Tallied) (facts : List (Fact ℕ)) → StandsFor t facts → IsAdded t t facts []
none-added t facts s = record {
  instance = refl;
  categories = refl;
  stands = subst (λ (fs : List (Fact ℕ)). StandsFor t fs) (sym (append-nil facts)) s;
}

-- there is no last fact
pub no-fact : (last : Option told.Fact) → ((f : told.Fact) → last ≡ Some f → ⊥) → [] ≡ facts_if last
no-fact None none = refl
no-fact (Some f) none = absurd (none f refl)

module _ (g : Graph) (i : Instance) (categories fed : List ℕ) (feed : Feeding) (tally : Tallied)
    (inside : IsRoller (rolling feed tally)) (h : HasTaken g i categories fed (rolling feed tally)) where
  -- a piece more
  pub taken-more : (piece : List ℕ) (facts : List (Fact ℕ)) (new : Feeding) (after : Tallied)
      → IsSameSetting feed new → after.categories ≡ tally.categories
      → Fed new (fed ++ piece) (h.facts ++ facts) → StandsFor after (h.facts ++ facts)
      → HasTaken g i categories (fed ++ piece) (rolling new after)
  taken-more piece facts new after same kept f s = record {
    graph = same.graph ∙ h.graph;
    instance = same.instance ∙ h.instance;
    categories_are = kept ∙ h.categories_are;
    facts = h.facts ++ facts;
    reads = f;
    stands = s;
  }

  -- a refusal of a text is that of the text by what the roller reads against
  pub refused-by : (text : List ℕ) (e : Refusal (Fault FactKind)) → IsRefusedBy e (fed_read feed text)
      → IsRefusedBy e (facts_read_within most_facts g i (records_fed text))
  refused-by text e r =
      subst (λ (t : Result (List (Fact ℕ)) (Fault FactKind)). IsRefusedBy e t)
      (read-by g i feed h.graph h.instance inside.most text) r

  -- at the end the tally gives the views of the text
  pub rolled-up : (facts : List (Fact ℕ)) (after : Tallied) (views : List (View ℕ ℕ))
      → fed_read feed fed ≡ Ok (h.facts ++ facts) → IsAdded tally after h.facts facts
      → ((all : List (Fact ℕ)) → StandsFor after all → views
      ≡ map (direct_view (members after.instance) all) after.categories)
      → AreRolledUp g i (records_fed fed) categories views
  rolled-up facts after views read added v =
      let all = h.facts ++ facts in
      let over : after.instance ≡ i = added.instance ∙ inside.instance ∙ h.instance in
      record {
        facts = all;
        read = sym (read-by g i feed h.graph h.instance inside.most fed) ∙ read;
        direct = v all added.stands
            ∙ ap (λ (j : Instance). map (direct_view (members j) all) after.categories) over
            ∙ ap (λ (cs : List ℕ). map (direct_view (members i) all) cs) (added.categories ∙ h.categories_are);
      }
