-- Edges chosen by bits: by place, and as a list.
use Rattle.std.proofs.Common.{◌≡◌, ℕ, zero, suc, ◌<◌, List, [], ◌∷◌, length, get_or, Bool, true, false, cond, Some, None, refl, ap, sym, ◌∙◌, ◌↔◌, inl, inr, arith}
use Rattle.std.specs.Prelude.{Contains}
use Rattle.olap_base.proofs.ListLemmas.{Contains-nil, contains_head, Distinct-from_AllPairs, AllPairs-from_Distinct, Distinct-places}
use Rattle.olap_base.specs.{Deciding.{contains_cons, contains_cases}, Graph.{Graph, Edge, IsCategory, IsHierarchy}}
use Rattle.olap_ast.{proofs.ChosenLemmas.{chosen_in, chosen_distinct}, specs.Frozen.chosen}
use Rattle.olap_graph.{proofs.PlaceLemmas.{found, missing, joins-Decides}, specs.Lookups.{edge_between, joins}}
use Rattle.olap_frozen.specs.{Chosen.{IsChoice, Joins}, Rows.JoinsBefore}

-- a chosen edge has a place whose bit is set
pub chosen_place : (es : List Edge) (bits : List Bool) (e z : Edge) → Contains (chosen es bits) e
    → (i : ℕ) × (i < length es) × (get_or bits i false ≡ true) × (get_or es i z ≡ e)
chosen_place [] bits e z c = absurd (Contains-nil e c)
chosen_place (x ∷ es) [] e z c = absurd (Contains-nil e c)
chosen_place (x ∷ es) (b ∷ bits) e z c = go b refl c (chosen_place es bits e z)
  where
    later : (i : ℕ) × (i < length es) × (get_or bits i false ≡ true) × (get_or es i z ≡ e)
        → (i : ℕ) × (i < length (x ∷ es)) × (get_or (b ∷ bits) i false ≡ true) × (get_or (x ∷ es) i z ≡ e)
    later t = (suc t.0, omega (arith, t.1), t.2, t.3)

    go : (a : Bool) → b ≡ a → Contains (cond a (x ∷ chosen es bits) (chosen es bits)) e
        → (Contains (chosen es bits) e → (i : ℕ) × (i < length es) × (get_or bits i false ≡ true) × (get_or es i z ≡ e))
        → (i : ℕ) × (i < length (x ∷ es)) × (get_or (b ∷ bits) i false ≡ true) × (get_or (x ∷ es) i z ≡ e)
    go true q c f = elim (contains_cases e x (chosen es bits) c) [
      | inl p ↦ (0, omega arith, q, p)
      | inr d ↦ later (f d)
    ]
    go false q c f = later (f c)

-- and the other way round
pub place_chosen : (es : List Edge) (bits : List Bool) (e z : Edge) (i : ℕ) → i < length es
    → get_or bits i false ≡ true → get_or es i z ≡ e → Contains (chosen es bits) e
place_chosen [] bits e z i h b q = absurd (omega arith)
place_chosen (x ∷ es) [] e z i h b q = absurd (cc)
place_chosen (x ∷ es) (a ∷ bits) e z zero h b q = grind (arith, contains_head)
place_chosen (x ∷ es) (a ∷ bits) e z (suc i) h b q = go a (place_chosen es bits e z i (omega arith) b q)
  where
    go : (t : Bool) → Contains (chosen es bits) e → Contains (cond t (x ∷ chosen es bits) (chosen es bits)) e
    go true c = contains_cons e (chosen es bits) x c
    go false c = c

-- what stands past the end of a list of edges
pub nowhere : Edge
nowhere = record { child = 0; parent = 0 }

-- edges chosen by their bits join what those of the list do
pub joins_before : (g : Graph) (bits : List Bool) (c d : ℕ)
    → JoinsBefore g bits (length g.edges) c d ↔ Joins (chosen g.edges bits) c d
joins_before g bits c d = (
  λ t. place_chosen g.edges bits (record { child = c; parent = d }) (record { child = 0; parent = 0 }) t.0 t.1 t.2 t.3,
  λ h. chosen_place g.edges bits (record { child = c; parent = d }) (record { child = 0; parent = 0 }) h,
)

-- bits of a hierarchy are a choice at every root
pub choice_of : (g : Graph) (r : ℕ) (bits : List Bool) → IsHierarchy g → IsCategory g r
    → IsChoice g r (chosen g.edges bits)
choice_of g r bits hier root = record {
  hierarchy = hier;
  root = root;
  within = chosen_in g.edges bits;
  differ = AllPairs-from_Distinct (chosen g.edges bits)
      (chosen_distinct g.edges bits (Distinct-from_AllPairs g.edges hier.edges_differ));
}

-- the bit of the edge from c to d
pub bit_joins : (g : Graph) (bits : List Bool) (c d i : ℕ) → IsHierarchy g → edge_between g c d ≡ Some i
    → (get_or bits i false ≡ true) ↔ Joins (chosen g.edges bits) c d
bit_joins g bits c d i hier e =
    let f = found (joins c d) (λ x. x ≡ record { child = c; parent = d }) (joins-Decides c d) g.edges 0 i e in
    let z : Edge = record { child = 0; parent = 0 } in
    let k : i ≡ f.0 = omega (arith, f.1) in
    let inside : i < length g.edges = let h = f.2 in omega arith in
    let at : get_or g.edges i z ≡ record { child = c; parent = d } = ap (λ j. get_or g.edges j z) k ∙ f.3 z in (
      λ b. place_chosen g.edges bits (record { child = c; parent = d }) z i inside b at,
      λ j. let t = chosen_place g.edges bits (record { child = c; parent = d }) z j in
          let same : t.0 ≡ i = Distinct-places g.edges (Distinct-from_AllPairs g.edges hier.edges_differ) t.0 i z t.1
          inside
          (t.3 ∙ sym at) in
          ap (λ j. get_or bits j false) (sym same) ∙ t.2,
    )

-- where the graph has no edge none is chosen
pub no_edge_joins : (g : Graph) (bits : List Bool) (c d : ℕ) → edge_between g c d ≡ None
    → Joins (chosen g.edges bits) c d → ⊥
no_edge_joins g bits c d e j =
    missing (joins c d) (λ x. x ≡ record { child = c; parent = d }) (joins-Decides c d) g.edges 0 e
    (record { child = c; parent = d }) (chosen_in g.edges bits (record { child = c; parent = d }) j) refl

-- the place of an edge is one of the list
pub edge_inside : (g : Graph) (c d i : ℕ) → edge_between g c d ≡ Some i → i < length g.edges
edge_inside g c d i e =
    let f = found (joins c d) (λ x. x ≡ record { child = c; parent = d }) (joins-Decides c d) g.edges 0 i e in
    let k : i ≡ f.0 = omega (arith, f.1) in
    let h = f.2 in omega arith
