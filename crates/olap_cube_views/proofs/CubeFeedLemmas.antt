-- A roller of a cube's facts after a part of a piece, and at the end of its text.
use Rattle.std.proofs.{Common.{◌≡◌, ◌∷◌, ◌++◌, ◌∙◌, true, ℕ, List, [], refl, sym, ap, subst}, lemmas.List.append-nil}
use Rattle.std.specs.Prelude.{MatchResult, Result, Ok, Err, ⊤}
use Rattle.olap_base.specs.{Graph.Graph, Instance.Instance, Limits.most_facts, Refusing.IsRefusedBy}
use Rattle.olap_base.specs.declared.refusals.{Fault.Fault, Refusal.Refusal}
use Rattle.olap_records.specs.Standing.{Standing, at_start, behind, records_fed, standing}
use Rattle.olap_facts.specs.declared.kinds.FactKind.{FactKind}
use Rattle.olap_cube_views.{proofs.CubeCountingLemmas.all-counted, specs.CubeFactText.cube_facts_read_within}
use Rattle.olap_cube_views.specs.CubeFeeding.{CubeRolling, HasCounted, HasTakenFacts, cube_fed_read, cube_rolling}
use Rattle.olap_cube_views.specs.CubeTallies.{CubeTallied, HasTallied}

module _ {gs : List Graph} {is : List Instance} {target fed : List ℕ} {r : CubeRolling}
    (h : HasTakenFacts gs is target fed r) where
  -- no record more
  pub taken-none : (more : List ℕ) (new : Standing) → standing at_start more ≡ behind h.done new
      → HasTakenFacts gs is target more (cube_rolling r.graphs r.begun new r.tally)
  taken-none more new e = record {
    graphs = h.graphs;
    instances = h.instances;
    target_is = h.target_is;
    done = h.done;
    facts = h.facts;
    stands_at = e;
    counted = h.counted;
    stands_for = h.stands_for;
  }

  -- a record more
  pub taken-one : (more : List ℕ) (row : List (List ℕ)) (new : Standing) (tally : CubeTallied)
      → standing at_start more ≡ behind (h.done ++ row ∷ []) new → tally.instances ≡ r.tally.instances
      → tally.target ≡ r.tally.target → HasCounted gs is (h.done ++ row ∷ []) tally
      → HasTakenFacts gs is target more (cube_rolling r.graphs true new tally)
  taken-one more row new tally e i t c = record {
    graphs = h.graphs;
    instances = i ∙ h.instances;
    target_is = t ∙ h.target_is;
    done = h.done ++ row ∷ [];
    facts = c.facts;
    stands_at = e;
    counted = c.counted;
    stands_for = c.stands_for;
  }

-- the last record, which the text's end ends
pub last-taken : (gs : List Graph) (is : List Instance) (fed : List ℕ) (done : List (List (List ℕ)))
    (row : List (List ℕ)) (tally : CubeTallied) → records_fed fed ≡ done ++ row ∷ []
    → (result : Result ⊤ (Refusal (Fault FactKind))) → MatchResult result
    (λ _. HasCounted gs is (done ++ row ∷ []) tally)
    (λ e. (left : List (List (List ℕ)))
    → IsRefusedBy e (cube_facts_read_within most_facts gs is ((done ++ row ∷ []) ++ left)))
    → MatchResult result (λ _. HasTallied gs is (records_fed fed) tally) (λ e. IsRefusedBy e (cube_fed_read gs is fed))
last-taken gs is fed done row tally all (Ok x) h = record {
  facts = h.facts;
  read = ap (cube_facts_read_within most_facts gs is) all
      ∙ all-counted gs is (done ++ row ∷ []) h.facts (h.counted.going refl);
  stands = h.stands_for;
}
last-taken gs is fed done row tally all (Err e) h =
    subst (λ (rs : List (List (List ℕ))). IsRefusedBy e (cube_facts_read_within most_facts gs is rs))
    (append-nil (done ++ row ∷ []) ∙ sym all) (h [])

-- a roller's graphs and instances are those that its text was taken against
module _ (gs : List Graph) (is : List Instance) (target fed : List ℕ) (r : CubeRolling) (js : List Instance)
    (same : r.tally.instances ≡ js) (h : HasTakenFacts gs is target fed r) where
  -- taken against the roller's own
  pub own : HasTakenFacts r.graphs js target fed r
  own = subst (λ hs. HasTakenFacts hs js target fed r) (sym h.graphs)
      (subst (λ ks. HasTakenFacts gs ks target fed r) (sym h.instances ∙ same) h)

  -- and back
  pub back : (P : List Graph → List Instance → Type 0) → P r.graphs js → P gs is
  back P p = subst (λ ks. P gs ks) (sym same ∙ h.instances) (subst (λ hs. P hs js) h.graphs p)
