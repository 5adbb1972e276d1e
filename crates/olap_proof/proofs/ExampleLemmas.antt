-- Lines that are a certificate.
use Rattle.std.proofs.Common.{◌≡◌, ℕ, List, [], ◌∷◌, Bool, true, false, cond, Some, refl, ap, ◌∙◌, inl, inr, arith}
use Rattle.std.{proofs.lemmas.List.Elements.{All-cons, All-nil}, specs.Prelude.{◌&&◌, not}}
use Rattle.olap_base.specs.Reaching.{category_reaches, category_reaches_is}
use Rattle.olap_base.specs.Steps.{Steps.here, Steps.step, reaches_from_Steps}
use Rattle.olap_ast.specs.{Frozen.Candidates, ThreeValues.{value_of, value_of_both, value_of_one}}
use Rattle.olap_ast.specs.declared.three_values.Truth3.{Truth3, TheVariants.{No, Yes, Unknown}}
use Rattle.olap_trail.specs.Decisions.{status_of}
use Rattle.olap_proof.proofs.ReasonLemmas.{closing}
use Rattle.olap_proof.specs.Certificates.{Runs.more, Runs.none, Steps.begins, Steps.edges, Steps.roots, Steps.ways}
use Rattle.olap_proof.specs.Closing.{Closes}
use Rattle.olap_proof.specs.Examples.{ChainIsCertified, ChainIsShortlyCertified, chain, city_not_by_store}
use Rattle.olap_proof.specs.Lines.{Line.Asked, Line.Clash, Line.Dead}
use Rattle.olap_proof.specs.Places.{Place, Way, leading_graph, possible_graph, truth_of_reach}
use Rattle.olap_proof.specs.declared.forms.Form.TheVariants.{Long, Short}

-- the place where the edge from Store to City was decided, after these ways
abbrev linked : Bool → List Way → Place
linked b ws = record {
  decided = record { graph = chain.graph; root = 1; decisions = (record { edge = 0; present = b }) ∷ [] };
  namings = [];
  ways = ws;
}

-- the way from Store to City
abbrev way : Bool → List Way
way t = (record { child = 1; parent = 2; there = t }) ∷ []

-- the place where that was decided alone
abbrev passed : Place
passed = record { decided = record { graph = chain.graph; root = 1; decisions = [] }; namings = []; ways = way true }

-- what the question says, by whether Store reaches City, and Store itself
abbrev by_store : Truth3 → Truth3 → Truth3
by_store x y = value_of_both ◌&&◌ x (value_of not (value_of_one (value_of_both ◌&&◌ y x ∷ [])))

-- what is known of Store's reaching where nothing leads there
abbrev unless : Place → ℕ → Truth3
unless p b = cond (category_reaches (possible_graph p.decided) 1 b) Unknown No

-- the store's edge leads to the city
city_from_store : (ws : List Way) → category_reaches (leading_graph (linked true ws)) 1 2 ≡ true
city_from_store ws = (category_reaches_is (leading_graph (linked true ws)) 1 2).1
    (reaches_from_Steps (step (0, omega arith, refl) here))

-- so the city has a member
city_known : truth_of_reach Long (linked true []) 1 2 ≡ Yes
city_known = ap (λ x. cond x Yes (unless (linked true []) 2)) (city_from_store [])

-- as the root has
store_known : truth_of_reach Long (linked true []) 1 1 ≡ Yes
store_known = ap (λ x. cond x Yes (unless (linked true []) 1))
    ((category_reaches_is (leading_graph (linked true [])) 1 1).1 (inl refl))

-- in the short form too
store_passed : truth_of_reach Short passed 1 1 ≡ Yes
store_passed = ap (λ x. cond x Yes (unless passed 1)) ((category_reaches_is (leading_graph passed) 1 1).1 (inl refl))

module _ (k : Candidates) where
  question_closes : Closes Long chain city_not_by_store k (linked true []) Asked
  question_closes = ap (λ x. by_store x (truth_of_reach Long (linked true []) 1 1)) city_known
      ∙ ap (λ y. by_store Yes y) store_known

  question_closes_shortly : Closes Short chain city_not_by_store k passed Asked
  question_closes_shortly = ap (λ y. by_store Yes y) store_passed

  steps_close : Closes Short chain city_not_by_store k (linked true (way false)) (Clash 1 2)
  steps_close = (refl, inr (refl, city_from_store (way false)))

-- the lines close each case, one after the other
pub chain_is_certified : ChainIsCertified
chain_is_certified k = more begins (more (roots {b = 1}) (more (edges {e = 0} (omega arith) refl)
    (more (closing (Dead 1) (omega arith) (
      λ e. cc,
      refl,
      All-cons (λ e. status_of (linked false []).decided e ≡ Some false) 0 [] refl
          (All-nil (λ e. status_of (linked false []).decided e ≡ Some false)),
    ))
    (more (closing Asked tt (question_closes k)) none))))

-- and so do those of the short form
pub chain_is_shortly_certified : ChainIsShortlyCertified
chain_is_shortly_certified k = more begins (more (roots {b = 1})
    (more (ways {a = 1} {b = 2} refl (omega arith) (omega arith) refl) (more (edges {e = 0} (omega arith) refl)
    (more (closing (Dead 1) (omega arith) (
      λ e. cc,
      refl,
      All-cons (λ e. status_of (linked false []).decided e ≡ Some false) 0 [] refl
          (All-nil (λ e. status_of (linked false []).decided e ≡ Some false)),
    ))
    (more (closing (Clash 1 2) (omega arith, omega arith) (steps_close k))
    (more (closing Asked tt (question_closes_shortly k)) none))))))
