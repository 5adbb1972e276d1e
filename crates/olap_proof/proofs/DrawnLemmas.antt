-- What the edges that were decided present hold.
use Rattle.std.proofs.Common.{◌≡◌, ℕ, ◌<◌, ◌↔◌, List, [], ◌∷◌, length, true, false, subst, sym, inl, inr}
use Rattle.std.proofs.lemmas.List.Elements.{Contains-append_cases, Contains-append_left, Contains-get_or}
use Rattle.std.specs.Prelude.{Contains, filter}
use Rattle.olap_base.proofs.{ListLemmas.{Contains-filter, Contains-map, Contains-only}, StepLemmas.wider_climb}
use Rattle.olap_base.specs.{Graph.{Edge, Graph, HasEdge}, Steps.{Climb, Climb.climb}}
use Rattle.olap_graph.specs.Lookups.{edge_at}
use Rattle.olap_trail.specs.Decisions.{Decided, Decision, HoldsCycle, HoldsShortcut, present_edges, present_graph, present_with}
use Rattle.olap_trail.specs.{Trails.{decision_of, decisions_of}, declared.decisions.Decision.{Decision as OneDecision}}
use Rattle.olap_proof.{proofs.CycleLemmas.{cyclic_is, shortened_is}, specs.Closing.{IsCyclic, IsShortened}}
use Rattle.olap_proof.specs.Seen.{decision_at}

-- a decision that says present draws its edge
pub drawn_edge : (t : Decided) (ds : List OneDecision) → t.decisions ≡ decisions_of ds → (k : ℕ) → k < length ds
    → (decision_at ds k).present ≡ true → Contains (present_edges t) (edge_at t.graph (decision_at ds k).edge.0)
drawn_edge t ds e k l h =
    let x = decision_at ds k in
    let there : Contains t.decisions (decision_of x) =
    subst (λ xs. Contains xs (decision_of x)) (sym e) (Contains-map decision_of ds x
    (Contains-get_or ds k (record { edge = record { 0 = 0 }; present = false }) l)) in
    Contains-map (λ (y : Decision). edge_at t.graph y.edge) (filter (λ (y : Decision). y.present) t.decisions)
    (decision_of x) (Contains-filter (λ (y : Decision). y.present) t.decisions (decision_of x) h there)

-- one of them once more is no other edge
again : (t : Decided) (e : ℕ) → Contains (present_edges t) (edge_at t.graph e) → (x y : ℕ)
    → HasEdge (present_with t e) x y → HasEdge (present_graph t) x y
again t e h x y i = elim (Contains-append_cases (present_edges t) (edge_at t.graph e ∷ [])
    (record { child = x; parent = y }) i) [
      | inl a ↦ a
      | inr b ↦ subst (λ (z : Edge). Contains (present_edges t) z)
          (Contains-only (edge_at t.graph e) (record { child = x; parent = y }) b) h
    ]

-- and all are still there
still : (t : Decided) (e : ℕ) (x y : ℕ) → HasEdge (present_graph t) x y → HasEdge (present_with t e) x y
still t e x y i =
    Contains-append_left (present_edges t) (edge_at t.graph e ∷ []) (record { child = x; parent = y }) i

-- a cycle of some edges is one of more
wider_cycle : (g j : Graph) → ((x y : ℕ) → HasEdge g x y → HasEdge j x y) → HoldsCycle g → HoldsCycle j
wider_cycle g j more c = (c.0, wider_climb more c.1)

-- with one of them once more they hold no other cycle
pub same_cycle : (t : Decided) (e : ℕ) → Contains (present_edges t) (edge_at t.graph e)
    → HoldsCycle (present_with t e) ↔ IsCyclic (present_graph t)
same_cycle t e h = (
  λ c. (cyclic_is (present_graph t)).0 (wider_cycle (present_with t e) (present_graph t) (again t e h) c),
  λ c. wider_cycle (present_graph t) (present_with t e) (still t e) ((cyclic_is (present_graph t)).1 c),
)

-- a shortcut of some edges is one of more
wider_shortcut : (g j : Graph) → ((x y : ℕ) → HasEdge g x y → HasEdge j x y) → HoldsShortcut g → HoldsShortcut j
wider_shortcut g j more s = record {
  child = s.child;
  parent = s.parent;
  through = s.through;
  edge = more s.child s.parent s.edge;
  first = more s.child s.through s.first;
  rest = wider_climb more s.rest;
}

-- and no other shortcut
pub same_shortcut : (t : Decided) (e : ℕ) → Contains (present_edges t) (edge_at t.graph e)
    → HoldsShortcut (present_with t e) ↔ IsShortened (present_graph t)
same_shortcut t e h = (
  λ s. (shortened_is (present_graph t)).0 (wider_shortcut (present_with t e) (present_graph t) (again t e h) s),
  λ s. wider_shortcut (present_graph t) (present_with t e) (still t e) ((shortened_is (present_graph t)).1 s),
)

-- if there is none, there is no cycle
pub no_cycle : (g : Graph) → ((c d : ℕ) → HasEdge g c d → ⊥) → IsCyclic g → ⊥
no_cycle g none c = go ((cyclic_is g).1 c).1
  where
    go : {a b : ℕ} → Climb (HasEdge g) a b → ⊥
    go {a} (climb {z = z} r s) = none a z r

-- and no shortcut
pub no_shortcut : (g : Graph) → ((c d : ℕ) → HasEdge g c d → ⊥) → IsShortened g → ⊥
no_shortcut g none s = none s.0 s.1 s.3
