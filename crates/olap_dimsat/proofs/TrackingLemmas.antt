-- Decisions that are so in each frozen dimension that agrees with a trail.
--     present_joins           the edges that were decided present are present in it
--     cycle_none              so none agrees where they close a cycle
--     shortcut_none           or make a shortcut
use Rattle.std.proofs.Common.{not, refl, ◌≡◌, ℕ, zero, suc, ◌+◌, ◌<◌, List, [], ◌∷◌, ◌++◌, length, get_or, Bool, true, false, ap, sym, subst, ◌∙◌, inl, inr, arith}
use Rattle.std.proofs.lemmas.{Bool.cases_order, List.{get_or-map, length-map}}
use Rattle.std.proofs.lemmas.List.Elements.{All-append, All-cons, All-nil, Contains-append_cases}
use Rattle.std.specs.Prelude.{Contains, filter, map}
use Rattle.olap_base.proofs.{ListLemmas.{Contains-from_filter, Contains-from_map, Contains-nil}, StepLemmas.wider_climb}
use Rattle.olap_base.specs.{Deciding.contains_cases, Graph.{Edge, Graph, HasEdge}}
use Rattle.olap_ast.specs.Frozen.{Frozen, chosen, name_in}
use Rattle.olap_clauses.specs.{Standing.Agrees, Trails.steps_of, declared.trails.Trail.Trail}
use Rattle.olap_frozen.{proofs.ChosenLemmas.{choice_of, place_chosen}, specs.Chosen.{IsSound, Joins}}
use Rattle.olap_graph.specs.Lookups.{edge_at}
use Rattle.olap_names.specs.Names.{candidates_of}
use Rattle.olap_trail.specs.Decisions.{AreDecisions, Decided, Decision, HoldsCycle, HoldsShortcut, present_graph, present_with}
use Rattle.olap_trail.specs.{Trails.{decision_of, decisions_of}, declared.decisions.Decision.{Decision as OneDecision}}
use Rattle.olap_dimsat.specs.{Reads.{EdgeReads, NoneAgrees, Reads}, Tasks.{IsOne, IsTask, Task, schema_of, graph_of}}
use Rattle.olap_dimsat.specs.Tracking.{AreRead, IsOf}
use Rattle.olap_frozen.proofs.ChosenInstance as made

-- ---- decisions that come one by one

-- what is turned to true is false
pub not_is : (b : Bool) → not b ≡ true → false ≡ b
not_is true p = absurd (let z : false ≡ true = p in cc)
not_is false p = refl

-- no decision, none to be right
pub read_none : (t : Task) (trail : Trail) → AreRead t trail []
read_none t trail = All-nil (λ (d : Decision). EdgeReads t trail d.edge d.present)

-- one decision more that is so in each frozen dimension
pub read_more : (t : Task) (trail : Trail) (ds : List Decision) (d : Decision) → AreRead t trail ds
    → EdgeReads t trail d.edge d.present → AreRead t trail (ds ++ d ∷ [])
read_more t trail ds d a r = All-append (λ (d : Decision). EdgeReads t trail d.edge d.present) ds (d ∷ []) a
    (All-cons (λ (d : Decision). EdgeReads t trail d.edge d.present) d [] r (read_none t trail))

-- the decision that is kept at a place
pub at_decision : (items : List OneDecision) (ds : List Decision) (k n : ℕ) (z : OneDecision) (d : Decision)
    → decisions_of items ≡ ds → n ≡ k → k < length ds → decision_of (get_or items n z) ≡ get_or ds k d
at_decision items ds k n z d e q h =
    let l : n < length items = let m = length-map items decision_of in let o = ap length e in omega arith in
    sym (get_or-map decision_of items n z d l) ∙ ap (λ xs. get_or xs n d) e ∙ ap (λ m. get_or ds m d) q

-- a decision is on an edge of the graph
pub edge_inside : (t : Task) (d : Decided) → IsOf t d → AreDecisions d → (items : List OneDecision)
    → decisions_of items ≡ d.decisions → (k n : ℕ) (z : OneDecision) → n ≡ k → k < length d.decisions
    → (get_or items n z).edge.0 < length (graph_of t).edges
edge_inside t d of are items e k n z q h =
    let w = decision_of z in
    subst (λ (g : Graph). (get_or items n z).edge.0 < length g.edges) of.graph
    (subst (λ (x : Decision). x.edge < length d.graph.edges) (sym (at_decision items d.decisions k n z w e q h))
    (are.edges k w h))

-- one decision more that the trail makes
pub read_next : (t : Task) (trail : Trail) (ds : List Decision) (k : ℕ)
    → ((i : ℕ) (d : Decision) → i < k → EdgeReads t trail (get_or ds i d).edge (get_or ds i d).present)
    → (x : Decision) → ((d : Decision) → x ≡ get_or ds k d) → EdgeReads t trail x.edge x.present
    → (i : ℕ) (d : Decision) → i < k + 1 → EdgeReads t trail (get_or ds i d).edge (get_or ds i d).present
read_next t trail ds k before x is reads i d h = elim (cases_order i k) [
  | inl q ↦ rw (← (is d ∙ ap (λ m. get_or ds m d) (sym q))) reads
  | inr s ↦ elim s [ inl l ↦ before i d l | inr g ↦ absurd (omega arith) ]
]

-- ---- the edges that were decided present

-- a bit that is set has a place in the list
bit_inside : (bits : List Bool) (e : ℕ) → get_or bits e false ≡ true → e < length bits
bit_inside [] e b = absurd (let z : false ≡ true = b in cc)
bit_inside (x ∷ bits) zero b = omega arith
bit_inside (x ∷ bits) (suc e) b = let r = bit_inside bits e b in omega arith

module _ (t : Task) (trail : Trail) (f : Frozen) (v : ℕ → Bool) (one : IsOne t f) (r : Reads t f v)
    (a : Agrees v (steps_of trail)) where
  abbrev es : List Edge
  es = chosen (graph_of t).edges f.edges

  -- an edge that is present in each is in this one
  read_joins : (e : ℕ) (x : Edge) → EdgeReads t trail e true → edge_at (graph_of t) e ≡ x → Contains es x
  read_joins e x reads q =
      let b : get_or f.edges e false ≡ true = reads f v one r a in
      place_chosen (graph_of t).edges f.edges x (record { child = 0; parent = 0 }) e
      (let h = bit_inside f.edges e b in let n = one.edge_count in omega arith) b q

  module _ (d : Decided) (of : IsOf t d) (read : AreRead t trail d.decisions) where
    decided_joins : (x : Edge)
        → Contains (map (λ (k : Decision). edge_at d.graph k.edge) (filter (λ (k : Decision). k.present) d.decisions)) x
        → Contains es x
    decided_joins x c =
        let m = Contains-from_map (λ (k : Decision). edge_at d.graph k.edge)
        (filter (λ (k : Decision). k.present) d.decisions) x c in
        let u = Contains-from_filter (λ (k : Decision). k.present) d.decisions m.0 m.1 in
        let k = u.0 in
        let reads : EdgeReads t trail m.0.edge m.0.present =
        subst (λ (w : Decision). EdgeReads t trail w.edge w.present) k.2 (read k.0 m.0 k.1) in
        read_joins m.0.edge x (subst (λ b. EdgeReads t trail m.0.edge b) u.1 reads)
        (ap (λ (g : Graph). edge_at g m.0.edge) (sym of.graph) ∙ m.2)

    pub present_joins : (x y : ℕ) → HasEdge (present_graph d) x y → Joins es x y
    present_joins x y = decided_joins (record { child = x; parent = y })

    with_joins : (e : ℕ) → EdgeReads t trail e true → (x y : ℕ) → HasEdge (present_with d e) x y → Joins es x y
    with_joins e reads x y c =
        elim (Contains-append_cases
        (map (λ (k : Decision). edge_at d.graph k.edge) (filter (λ (k : Decision). k.present) d.decisions))
        (edge_at d.graph e ∷ []) (record { child = x; parent = y }) c) [
          | inl h ↦ decided_joins (record { child = x; parent = y }) h
          | inr h ↦ elim (contains_cases (record { child = x; parent = y }) (edge_at d.graph e) [] h) [
            | inl q ↦ read_joins e (record { child = x; parent = y }) reads
                (ap (λ (g : Graph). edge_at g e) (sym of.graph) ∙ q)
            | inr k ↦ absurd (Contains-nil (record { child = x; parent = y }) k)
          ]
        ]

module _ (t : Task) (trail : Trail) (task : IsTask t) (d : Decided) (of : IsOf t d) (read : AreRead t trail d.decisions)
    (e : ℕ) (reads : EdgeReads t trail e true) where
  sound : (f : Frozen) → IsOne t f → IsSound t.question.root (chosen (graph_of t).edges f.edges)
  sound f one = made.sound_of_frozen (schema_of t) t.question.formula t.question.root
      (chosen (graph_of t).edges f.edges)
      (choice_of (graph_of t) t.question.root f.edges task.question.hierarchy task.question.root)
      (name_in (candidates_of t.question.candidates) f) one.stands_for

  pub cycle_none : HoldsCycle (present_with d e) → NoneAgrees t trail
  cycle_none h f v one r a =
      (sound f one).acyclic h.0 (wider_climb (with_joins t trail f v one r a d of read e reads) h.1)

  pub shortcut_none : HoldsShortcut (present_with d e) → NoneAgrees t trail
  shortcut_none h f v one r a =
      let joins = with_joins t trail f v one r a d of read e reads in
      (sound f one).straight h.child h.parent h.through (joins h.child h.parent h.edge)
      (joins h.child h.through h.first)
      (wider_climb joins h.rest)
