-- There are no more decisions than edges, nor present edges than decisions.
use Rattle.std.proofs.Common.{◌≡◌, ℕ, suc, ◌<◌, ◌≤◌, List, [], ◌∷◌, length, cond, Bool, true, false, subst, arith, eqb, eqb-true}
use Rattle.std.proofs.lemmas.{Bool.Decides.Decides-eqb, List.length-map, Map.Made.IsDistinct-from_AllPairs}
use Rattle.std.{proofs.lemmas.Map.Steps.length-le_from_distinct_below, specs.Prelude.{Contains, filter}}
use Rattle.olap_base.proofs.ListLemmas.{Contains-from_map, list_any_is}
use Rattle.olap_graph.specs.Lookups.{edge_at}
use Rattle.olap_trail.{proofs.DecisionLemmas.edges_of, specs.Decisions.{AreDecisions, Decided, Decision, present_edges}}

-- each edge is decided once at most
pub few_decisions : (t : Decided) → AreDecisions t → length t.decisions ≤ length t.graph.edges
few_decisions t a =
    let xs = edges_of t.decisions in
    let n = length-map t.decisions (λ (d : Decision). d.edge) in
    let l = length-le_from_distinct_below xs (length t.graph.edges)
    (IsDistinct-from_AllPairs Decides-eqb xs a.edges_differ) (λ q h. below q ((list_any_is (eqb q) xs).0 h)) in
    omega (arith, n, l)
  where
    below : (q : ℕ) → (x : ℕ) × Contains (edges_of t.decisions) x × (eqb q x ≡ true) → q < length t.graph.edges
    below q w =
        let d = Contains-from_map (λ (d : Decision). d.edge) t.decisions w.0 w.1 in
        let l : d.0.edge < length t.graph.edges =
        subst (λ (e : Decision). e.edge < length t.graph.edges) d.1.2 (a.edges d.1.0 d.0 d.1.1) in
        let e = d.2 in
        let f = eqb-true q w.0 w.2 in
        omega (arith, l, e, f)

-- no more pass than there are
filter_few : (p : Decision → Bool) (ds : List Decision) → length (filter p ds) ≤ length ds
filter_few p [] = omega arith
filter_few p (d ∷ ds) = go (p d) (filter p ds) (filter_few p ds)
  where
    go : (b : Bool) (es : List Decision) → length es ≤ length ds → length (cond b (d ∷ es) es) ≤ suc (length ds)
    go true es h = omega (arith, h)
    go false es h = omega (arith, h)

-- and the present edges are some of those decided
pub few_present : (t : Decided) → length (present_edges t) ≤ length t.decisions
few_present t =
    let n = length-map (filter (λ (d : Decision). d.present) t.decisions) (λ (d : Decision). edge_at t.graph d.edge) in
    let l = filter_few (λ (d : Decision). d.present) t.decisions in
    omega (arith, n, l)
