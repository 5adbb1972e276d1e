-- The edges that the program has seen are those of the definitions' graphs.
use Rattle.std.proofs.Common.{◌≡◌, ℕ, ◌<◌, ◌⊎◌, List, length, map, false, true, ap, refl, sym, subst, ◌∙◌, inl, inr}
use Rattle.std.proofs.lemmas.List.{get_or_default}
use Rattle.std.proofs.lemmas.List.Elements.{Contains-append_cases, Contains-append_left, Contains-append_right, Contains-get_or}
use Rattle.std.specs.{List.range_with_len, Prelude.{Contains, filter}}
use Rattle.olap_base.proofs.ListLemmas.{Contains-filter, Contains-from_filter, Contains-from_map, Contains-from_range, Contains-map, Contains-range}
use Rattle.olap_base.specs.Graph.{Edge, HasEdge}
use Rattle.olap_graph.specs.Lookups.{edge_at}
use Rattle.olap_trail.specs.Decisions.{AreDecisions, Decided, Decision, present_edges, status_of}
use Rattle.olap_trail.specs.{Trails.{decision_of, decisions_of}, declared.decisions.Decision.{Decision as OneDecision}}
use Rattle.olap_proof.{proofs.KeptWayLemmas.whole, specs.KeptWays.leading_way}
use Rattle.olap_proof.specs.Places.{Place, Way, edge_of_way, leading_graph, possible_graph}
use Rattle.olap_proof.specs.Seen.{is_possible, LeadsHere, SeenDecisions, SeenPossible, decision_at}

-- ---- edges that weren't decided absent

-- all edges by place
abbrev places : Decided → List ℕ
places t = range_with_len 0 (length t.graph.edges)

-- an edge that may be present was seen
pub possible_seen : (t : Decided) (c d : ℕ) → HasEdge (possible_graph t) c d
    → SeenPossible t (length t.graph.edges) c d
possible_seen t c d h =
    let m = Contains-from_map (edge_at t.graph) (filter (λ e. is_possible (status_of t e)) (places t))
    (record { child = c; parent = d }) h in
    let u = Contains-from_filter (λ e. is_possible (status_of t e)) (places t) m.0 m.1 in (
      m.0,
      Contains-from_range (length t.graph.edges) m.0 u.0,
      u.1,
      ap (λ (x : Edge). x.child) m.2,
      ap (λ (x : Edge). x.parent) m.2,
    )

-- and one that was seen may be present
pub seen_possible : (t : Decided) (k : ℕ) → k < length t.graph.edges → is_possible (status_of t k) ≡ true
    → HasEdge (possible_graph t) (edge_at t.graph k).child (edge_at t.graph k).parent
seen_possible t k l h =
    Contains-map (edge_at t.graph) (filter (λ e. is_possible (status_of t e)) (places t)) k
    (Contains-filter (λ e. is_possible (status_of t e)) (places t) k h (Contains-range (length t.graph.edges) k l))

-- ---- what is known to be there

-- an edge that was decided present was seen among the decisions
pub present_seen : (t : Decided) (ds : List OneDecision) (c d : ℕ) → t.decisions ≡ decisions_of ds
    → Contains (present_edges t) (record { child = c; parent = d }) → SeenDecisions t.graph ds (length ds) c d
present_seen t ds c d e h =
    let m =
    Contains-from_map (λ (x : Decision). edge_at t.graph x.edge) (filter (λ (x : Decision). x.present) t.decisions)
    (record { child = c; parent = d }) h in
    let u = Contains-from_filter (λ (x : Decision). x.present) t.decisions m.0 m.1 in
    let w = Contains-from_map decision_of ds m.0 (subst (λ xs. Contains xs m.0) e u.0) in
    let at : decision_at ds w.1.0 ≡ w.0 =
    get_or_default ds w.1.0 (record { edge = record { 0 = 0 }; present = false }) w.0 w.1.1 ∙ w.1.2 in
    let same : decision_of (decision_at ds w.1.0) ≡ m.0 = ap decision_of at ∙ w.2 in (
      w.1.0,
      w.1.1,
      ap (λ (x : Decision). x.present) same ∙ u.1,
      ap (λ (x : Decision). (edge_at t.graph x.edge).child) same ∙ ap (λ (x : Edge). x.child) m.2,
      ap (λ (x : Decision). (edge_at t.graph x.edge).parent) same ∙ ap (λ (x : Edge). x.parent) m.2,
    )

-- and a way that is there among the ways
pub way_seen : (ways : List Way) (c d : ℕ)
    → Contains (map edge_of_way (filter (λ (w : Way). w.there) ways)) (record { child = c; parent = d })
    → LeadsHere ways c d
way_seen ways c d h =
    let m = Contains-from_map edge_of_way (filter (λ (x : Way). x.there) ways) (record { child = c; parent = d }) h in
    let u = Contains-from_filter (λ (x : Way). x.there) ways m.0 m.1 in
    subst (λ x. Contains ways x)
    (whole m.0 c d true (ap (λ (x : Edge). x.child) m.2) (ap (λ (x : Edge). x.parent) m.2) u.1)
    u.0

-- so each step was seen
pub leading_seen : (p : Place) (ds : List OneDecision) → p.decided.decisions ≡ decisions_of ds → (c d : ℕ)
    → HasEdge (leading_graph p) c d → SeenDecisions p.decided.graph ds (length ds) c d ⊎ LeadsHere p.ways c d
leading_seen p ds e c d h = elim (Contains-append_cases (present_edges p.decided)
    (map edge_of_way (filter (λ (w : Way). w.there) p.ways)) (record { child = c; parent = d }) h) [
      | inl a ↦ inl (present_seen p.decided ds c d e a)
      | inr a ↦ inr (way_seen p.ways c d a)
    ]

-- a decision that says present is a step
pub seen_present : (p : Place) (ds : List OneDecision) → p.decided.decisions ≡ decisions_of ds → (k : ℕ) → k < length ds
    → (decision_at ds k).present ≡ true
    → HasEdge (leading_graph p) (edge_at p.decided.graph (decision_at ds k).edge.0).child
    (edge_at p.decided.graph (decision_at ds k).edge.0).parent
seen_present p ds e k l h =
    let x = decision_at ds k in
    let there : Contains p.decided.decisions (decision_of x) =
    subst (λ xs. Contains xs (decision_of x)) (sym e) (Contains-map decision_of ds x
    (Contains-get_or ds k (record { edge = record { 0 = 0 }; present = false }) l)) in
    Contains-append_left (present_edges p.decided) (map edge_of_way (filter (λ (w : Way). w.there) p.ways))
    (edge_at p.decided.graph x.edge.0)
    (Contains-map (λ (y : Decision). edge_at p.decided.graph y.edge)
    (filter (λ (y : Decision). y.present) p.decided.decisions) (decision_of x)
    (Contains-filter (λ (y : Decision). y.present) p.decided.decisions (decision_of x) h there))

-- and so is a way that is there
pub seen_way : (p : Place) (c d : ℕ) → LeadsHere p.ways c d → HasEdge (leading_graph p) c d
seen_way p c d h =
    Contains-append_right (present_edges p.decided) (map edge_of_way (filter (λ (w : Way). w.there) p.ways))
    (record { child = c; parent = d })
    (Contains-map edge_of_way (filter (λ (y : Way). y.there) p.ways) (leading_way c d)
    (Contains-filter (λ (y : Way). y.there) p.ways (leading_way c d) refl h))

-- ---- within the graph

-- each decision is on an edge of the graph
pub decisions_within : (t : Decided) (ds : List OneDecision) → AreDecisions t → decisions_of ds ≡ t.decisions → (k : ℕ)
    → k < length ds → (decision_at ds k).edge.0 < length t.graph.edges
decisions_within t ds are e k l =
    let x = decision_at ds k in
    let none : OneDecision = record { edge = record { 0 = 0 }; present = false } in
    let there : Contains t.decisions (decision_of x) =
    subst (λ xs. Contains xs (decision_of x)) e (Contains-map decision_of ds x (Contains-get_or ds k none l)) in
    subst (λ (d : Decision). d.edge < length t.graph.edges) there.2 (are.edges there.0 (decision_of x) there.1)
