-- A fact table that grows fact by fact.
use Rattle.std.proofs.Common.{◌≡◌, ◌<◌, ◌∷◌, ◌++◌, [], List, length, get_or, map, subst, append_assoc, inl, inr}
use Rattle.std.proofs.lemmas.List.{map-append, Elements.{Contains-get_or, Contains-push_cases}}
use Rattle.std.specs.Prelude.{ℕ, All}
use Rattle.olap_base.{proofs.ListLemmas.Contains-map, specs.Graph.{Graph, IsBottom}}
use Rattle.olap_base.specs.{Instance.{Instance, IsMember, category_of}, Views.{Fact, IsFactTable}}
use Rattle.olap_facts.specs.Seen.{fact_of}
use Rattle.olap_facts.specs.declared.tables.Fact as told

-- one fact more at a member of a bottom category
table-more : (g : Graph) (i : Instance) (fs : List (Fact ℕ)) (f : Fact ℕ) → IsFactTable g i fs → IsMember i f.at
    → IsBottom g (category_of i f.at) → IsFactTable g i (fs ++ f ∷ [])
table-more g i fs f t m b q c = elim (Contains-push_cases fs f q c) [
  | inl h ↦ t q h
  | inr e ↦ subst (λ (p : Fact ℕ). IsMember i p.at × IsBottom g (category_of i p.at)) e (m, b)
]

module _ (fs : List told.Fact) {new : List told.Fact} (f : told.Fact) (e : new ≡ fs ++ f ∷ []) where
  -- a fact that is pushed stands last among those that the list tells
  pub told-pushed : (facts : List (Fact ℕ)) → (facts ++ map fact_of fs) ++ fact_of f ∷ [] ≡ facts ++ map fact_of new
  told-pushed facts = rw (e, map-append) (append_assoc facts (map fact_of fs) (fact_of f ∷ []))

  -- at a member of a bottom category it leaves a fact table
  pub table-pushed : (g : Graph) (i : Instance) → IsFactTable g i (map fact_of fs) → IsMember i f.member.0
      → IsBottom g (category_of i f.member.0) → IsFactTable g i (map fact_of new)
  table-pushed g i t m b =
      subst (IsFactTable g i) (told-pushed []) (table-more g i (map fact_of fs) (fact_of f) t m b)

-- the facts of a fact table stand at members
pub table-members : (g : Graph) (i : Instance) (fs : List told.Fact) → IsFactTable g i (map fact_of fs)
    → All (λ f. f.member.0 < length i) fs
table-members g i fs t k d h = (t (fact_of (get_or fs k d))
    (Contains-map fact_of fs (get_or fs k d) (Contains-get_or fs k d h))).0
