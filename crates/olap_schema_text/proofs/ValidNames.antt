-- Names that are known in a graph, and the paths through their categories.
use Rattle.std.proofs.Common.{◌≡◌, ◌≢◌, ℕ, Bool, true, false, List, [], ◌∷◌, Option, Some, None, get_or, refl, arith, subst, inl, inr, is_some}
use Rattle.std.{proofs.lemmas.Bool.{not-false, or_parts}, proofs.lemmas.Slice.Eq.bytes_eq-Decides, specs.List.list_any}
use Rattle.std.specs.{Prelude.{◌==◌, AllPairs, Contains}, Str.bytes_eq}
use Rattle.olap_base.{proofs.ListLemmas.{AllPairs-from_Distinct, Contains-nil, Distinct}, specs.Chains.IsChain}
use Rattle.olap_base.specs.{Deciding.contains_cases, Graph.{Graph, HasEdge, IsCategory}}
use Rattle.olap_graph.proofs.PlaceLemmas.{found, joins-Decides}
use Rattle.olap_graph.specs.Lookups.{category_named, edge_between, joins, names_of}
use Rattle.olap_schema_text.specs.Resolving.{is_repeated, lacks_edge}

-- ---- tests

-- ---- known names

-- the name of a category that was found
pub name_at : (g : Graph) (name : List ℕ) (d : ℕ) → category_named g name ≡ Some d
    → IsCategory g d × ((x : List ℕ) → name ≡ get_or (names_of g) d x)
name_at g name d e =
    let r = found (bytes_eq name) (λ x. name ≡ x) (bytes_eq-Decides name) (names_of g) 0 d e in
    let same : r.0 ≡ d = omega (arith, r.1) in
    (omega (arith, r.1, r.2), λ x. subst (λ k. name ≡ get_or (names_of g) k x) same (r.3 x))

-- ---- paths

-- an edge that was found is one
edge_is : (g : Graph) (c d : ℕ) → is_some (edge_between g c d) ≡ true → HasEdge g c d
edge_is g c d h = go (edge_between g c d) refl h
  where
    go : (o : Option ℕ) → edge_between g c d ≡ o → is_some o ≡ true → HasEdge g c d
    go None e k = absurd (cc)
    go (Some i) e k =
        let r = found (joins c d) (λ x. x ≡ record { child = c; parent = d }) (joins-Decides c d) g.edges 0 i e in
        (r.0, r.2, r.3 (record { child = c; parent = d }))

-- categories that lack no edge follow edges
pub follows : (g : Graph) (c : ℕ) (ds : List ℕ) → lacks_edge g c ds ≡ false → IsChain (HasEdge g) (c ∷ ds)
unfolding lacks_edge
follows g c [] l = tt
follows g c (d ∷ ds) l =
    let t = or_parts _ _ l in (edge_is g c d (not-false _ t.0), follows g d ds t.1)

-- where none passes, each fails
none_passes : {X : Type 0} (p : X → Bool) (xs : List X) (x : X) → list_any p xs ≡ false → Contains xs x → p x ≡ false
none_passes p [] x h c = absurd (Contains-nil x c)
none_passes p (y ∷ ys) x h c =
    let t = or_parts _ _ h in
    elim (contains_cases x y ys c) [ inl e ↦ subst (λ z. p z ≡ false) e t.0 | inr d ↦ none_passes p ys x t.1 d ]

-- categories of which none is repeated are distinct
distinct : (cs : List ℕ) → is_repeated cs ≡ false → Distinct cs
unfolding is_repeated
distinct [] h = tt
distinct (c ∷ cs) h =
    let t = or_parts _ _ h in
    (λ k. (let no = none_passes (λ d. d == c) cs c t.0 k in let yes = same_itself c in absurd (cc)), distinct cs t.1)
  where
    same_itself : (n : ℕ) → (n == n) ≡ true
    same_itself n = grind arith

-- and so they differ
pub differ : (cs : List ℕ) → is_repeated cs ≡ false → AllPairs ◌≢◌ cs
differ cs k = AllPairs-from_Distinct cs (distinct cs k)
