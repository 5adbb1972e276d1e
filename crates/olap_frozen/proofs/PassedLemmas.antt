-- The edges out of a category, of which some were looked at for one that goes past another.
use Rattle.std.proofs.Common.{◌≡◌, ℕ, ◌+◌, ◌<◌, ◌≤◌, List, length, map, get_or, Bool, true, false, ap, sym, subst, ◌∙◌, inl, inr, arith}
use Rattle.std.proofs.lemmas.{Bool.{eqb-true, eq-eqb}, List.get_or_default, List.Elements.Contains-get_or}
use Rattle.std.specs.{List.range_with_len, Prelude.{◌≢◌, ◌==◌, Contains}}
use Rattle.olap_base.proofs.GeneralLemmas.{below_or_same}
use Rattle.olap_base.proofs.ListLemmas.{Contains-filter, Contains-from_filter, Contains-from_map, Contains-from_range, Contains-map, Contains-range}
use Rattle.olap_base.specs.{Graph.{Edge, Graph}, declared.ids.EdgeId.EdgeId}
use Rattle.olap_bits.specs.declared.sets.CatSet.{CatSet}
use Rattle.olap_graph.specs.{Lookups.{edge_at, edges_from}, Rows.Has}
use Rattle.olap_frozen.specs.Rows.{IsPassed}

-- what stands past the end of a list of edges
abbrev pub nowhere : EdgeId
nowhere = record { 0 = 0 }

-- the edge is chosen, and leads to another category than d, whose set has d
pub record GoesPast {W : ℕ} (g : Graph) (bits : List Bool) (rows : List (CatSet W)) (d i : ℕ) : Type 0 where
  pub chosen : get_or bits i false ≡ true
  pub other : (edge_at g i).parent ≢ d
  pub reaches : Has rows (edge_at g i).parent d

-- none of the first k of these edges goes past d
abbrev pub NonePast : {W : ℕ} → Graph → List Bool → List (CatSet W) → List EdgeId → ℕ → ℕ → Type 0
NonePast g bits rows out d k = (j : ℕ) → j < k → GoesPast g bits rows d (get_or out j nowhere).0 → ⊥

-- one edge more that doesn't go past the other
pub none_more : {W : ℕ} (g : Graph) (bits : List Bool) (rows : List (CatSet W)) (out : List EdgeId) (d k : ℕ)
    → (GoesPast g bits rows d (get_or out k nowhere).0 → ⊥) → NonePast g bits rows out d k
    → NonePast g bits rows out d (k + 1)
none_more g bits rows out d k n none j h past = elim (below_or_same j k h) [
  | inl l ↦ none j l past
  | inr e ↦ n (subst (λ i. GoesPast g bits rows d (get_or out i nowhere).0) e past)
]

-- an edge out of c that goes past d
pub passed_by : {W : ℕ} (g : Graph) (bits : List Bool) (rows : List (CatSet W)) (out : List EdgeId) (c d k : ℕ)
    → map (λ e. e.0) out ≡ edges_from g c → k < length out → GoesPast g bits rows d (get_or out k nowhere).0
    → IsPassed g bits rows (length g.edges) c d
passed_by g bits rows out c d k q h past =
    let id = get_or out k nowhere in
    let test : ℕ → Bool = λ j. (edge_at g j).child == c in
    let m = Contains-from_filter test (range_with_len 0 (length g.edges)) id.0
    (subst (λ ks. Contains ks id.0) q (Contains-map (λ (e : EdgeId). e.0) out id (Contains-get_or out k nowhere h))) in
    let parent = (edge_at g id.0).parent in
    let child = eqb-true (edge_at g id.0).child c m.1 in (
      parent,
      (
        id.0,
        Contains-from_range (length g.edges) id.0 m.0,
        past.chosen,
        ap (λ x. record { child = x; parent = parent }) child,
      ),
      past.other,
      past.reaches,
    )

-- where all edges out of c were looked at, none goes past d
pub not_passed : {W : ℕ} (g : Graph) (bits : List Bool) (rows : List (CatSet W)) (out : List EdgeId) (c d k : ℕ)
    → map (λ e. e.0) out ≡ edges_from g c → length out ≤ k → NonePast g bits rows out d k
    → IsPassed g bits rows (length g.edges) c d → ⊥
not_passed g bits rows out c d k q all none p =
    let e = p.0 in
    let i = p.1.0 in
    let at : edge_at g i ≡ record { child = c; parent = e } = p.1.3 in
    let m = Contains-filter (λ j. (edge_at g j).child == c) (range_with_len 0 (length g.edges)) i
    (eq-eqb (edge_at g i).child c (ap (λ (y : Edge). y.child) at)) (Contains-range (length g.edges) i p.1.1) in
    let t = Contains-from_map (λ (y : EdgeId). y.0) out i (subst (λ ks. Contains ks i) (sym q) m) in
    let is : (get_or out t.1.0 nowhere).0 ≡ i =
    ap (λ (y : EdgeId). y.0) (get_or_default out t.1.0 nowhere t.0 t.1.1 ∙ t.1.2) ∙ t.2 in
    let parent : (edge_at g i).parent ≡ e = ap (λ (y : Edge). y.parent) at in
    none t.1.0 (let h = t.1.1 in omega arith) (subst (λ j. GoesPast g bits rows d j) (sym is) (record {
      chosen = p.1.2;
      other = λ s. p.2 (sym parent ∙ s);
      reaches = subst (λ z. Has rows z d) (sym parent) p.3;
    }))
