-- Decisions, and the edges that are decided present, with one decision more or without the last one.
use Rattle.std.proofs.Common.{◌≡◌, ◌≢◌, ℕ, ◌-◌, ◌<◌, ◌⊎◌, ◌↔◌, List, [], ◌∷◌, ◌++◌, length, get_or, set, take, map, cond, Bool, true, false, refl, ap, sym, subst, ◌∙◌, inl, inr, arith, eq-eqb}
use Rattle.std.proofs.Math.{ListN.get_or-append, Seq.{get_or-append_seam, take-append_seam}}
use Rattle.std.proofs.lemmas.Bool.{ne_eqb, cases_eq}
use Rattle.std.proofs.lemmas.List.{append-nil, get_or-set_other, get_or-set_same, length_push, map-append, map_push}
use Rattle.std.proofs.lemmas.List.{Elements.{All-push, Contains-get_or, filter-append}, Quantifiers.all_pairs_push}
use Rattle.std.specs.Prelude.{AllPairs, Contains, Option, Some, None, filter, ◌==◌}
use Rattle.olap_base.proofs.ListLemmas.{Contains-from_filter, Contains-from_map, Contains-map, Contains-nil, Distinct-from_AllPairs, Distinct-places}
use Rattle.olap_base.specs.{Chains.IsOrLeads, Deciding.{contains_cases, contains_cons}, Graph.{Edge, Graph}}
use Rattle.olap_base.specs.Steps.{Climb, Climb-from_leads, leads_from_Climb}
use Rattle.olap_graph.specs.Lookups.{edge_at}
use Rattle.olap_trail.specs.Decisions.{AreDecisions, Decided, Decision, HoldsShortcut, present_edges, status_in}
use Rattle.olap_trail.specs.Drawing.{HoldsBypass, Joins}

-- ---- what was decided of an edge

-- where nothing is found, the first isn't it and nothing is found in the rest
found : (b : Bool) (p : Bool) (o : Option Bool) → cond b (Some p) o ≡ None → (b ≡ false) × (o ≡ None)
found true p o h = absurd (cc)
found false p o h = (refl, h)

-- the new decision tells its edge
pub status_new : (ds : List Decision) (d : Decision) → status_in ds d.edge ≡ None
    → status_in (ds ++ d ∷ []) d.edge ≡ Some d.present
status_new [] d h = ap (λ b. cond b (Some d.present) None) (eq-eqb d.edge d.edge refl)
status_new (f ∷ ds) d h =
    let t = found (f.edge == d.edge) f.present (status_in ds d.edge) h in
    ap (λ b. cond b (Some f.present) (status_in (ds ++ d ∷ []) d.edge)) t.0 ∙ status_new ds d t.1

-- and no other edge
pub status_other : (ds : List Decision) (d : Decision) (x : ℕ) → x ≢ d.edge
    → status_in (ds ++ d ∷ []) x ≡ status_in ds x
status_other [] d x n = ap (λ b. cond b (Some d.present) None) (ne_eqb d.edge x (λ e. n (sym e)))
status_other (f ∷ ds) d x n = ap (λ o. cond (f.edge == x) (Some f.present) o) (status_other ds d x n)

-- the edges of these decisions
abbrev pub edges_of : List Decision → List ℕ
edges_of ds = map (λ d. d.edge) ds

-- nothing was decided of an edge that isn't among them
pub status_none : (ds : List Decision) (x : ℕ) → (Contains (edges_of ds) x → ⊥) → status_in ds x ≡ None
status_none [] x n = refl
status_none (f ∷ ds) x n =
    ap (λ b. cond b (Some f.present) (status_in ds x))
    (ne_eqb f.edge x (λ e. n (0, omega arith, e)))
    ∙ status_none ds x (λ c. n (contains_cons x (edges_of ds) f.edge c))

-- and an edge of which nothing was decided isn't among them
pub none_status : (ds : List Decision) (x : ℕ) → status_in ds x ≡ None → Contains (edges_of ds) x → ⊥
none_status [] x h c = Contains-nil x c
none_status (f ∷ ds) x h c =
    let t = found (f.edge == x) f.present (status_in ds x) h in
    elim (contains_cases x f.edge (edges_of ds) c) [
      | inl e ↦ let u : false ≡ true = sym t.0 ∙ eq-eqb f.edge x e in cc
      | inr k ↦ none_status ds x t.1 k
    ]

-- ---- decisions

module _ (g : Graph) (root : ℕ) (ds : List Decision) (d : Decision) where
  -- the decisions before the last one
  abbrev pub front : Decided
  front = record { graph = g; root = root; decisions = ds }

  -- and with it
  abbrev pub whole : Decided
  whole = record { graph = g; root = root; decisions = ds ++ d ∷ [] }

  -- a decision on an edge that is undecided may be added
  pub decisions_push : AreDecisions front → d.edge < length g.edges → status_in ds d.edge ≡ None → AreDecisions whole
  decisions_push a h undecided = record {
    root = a.root;
    edges = All-push (λ (e : Decision). e.edge < length g.edges) ds d a.edges h;
    edges_differ =
        subst (λ es. AllPairs ◌≢◌ es) (sym (map_push (λ (e : Decision). e.edge) ds d))
        (all_pairs_push ◌≢◌ (edges_of ds) d.edge a.edges_differ
        (λ k x l e. none_status ds d.edge undecided
        (subst (λ y. Contains (edges_of ds) y) e (Contains-get_or (edges_of ds) k x l))));
  }

  -- the last decision is on another edge than those before it
  pub last_new : AreDecisions whole → Contains (edges_of ds) d.edge → ⊥
  last_new a c =
      let n = length_push (edges_of ds) d.edge in
      (subst (λ es. AllPairs ◌≢◌ es) (map_push (λ (e : Decision). e.edge) ds d) a.edges_differ) c.0
      (length (edges_of ds))
      d.edge c.1 (omega (arith, n))
      (get_or-append (edges_of ds) (d.edge ∷ []) d.edge c.0 c.1 ∙ c.2
      ∙ sym (get_or-append_seam (edges_of ds) d.edge [] d.edge))

  -- the last decision is on an edge of the graph
  pub last_edge : AreDecisions whole → d.edge < length g.edges
  last_edge a =
      let n = length_push ds d in
      subst (λ (e : Decision). e.edge < length g.edges) (get_or-append_seam ds d [] d)
      (a.edges (length ds) d (omega (arith, n)))

  -- the last decision may be taken away
  pub decisions_pop : AreDecisions whole → AreDecisions front
  decisions_pop a = record {
    root = a.root;
    edges = λ k x l.
        let n = length_push ds d in
        subst (λ (e : Decision). e.edge < length g.edges) (get_or-append ds (d ∷ []) x k l)
        (a.edges k x (omega (arith, n, l)));
    edges_differ = λ i j x l h. λ q.
        let n = length_push (edges_of ds) d.edge in
        (subst (λ es. AllPairs ◌≢◌ es) (map_push (λ (e : Decision). e.edge) ds d) a.edges_differ) i j x l
        (omega (arith, n, h))
        (get_or-append (edges_of ds) (d.edge ∷ []) x i (omega (arith, l, h)) ∙ q
        ∙ sym (get_or-append (edges_of ds) (d.edge ∷ []) x j h));
  }

  -- ---- the edges that are decided present

  -- a decision's edge, where it is present
  one : (b : Bool) → map (λ (e : Decision). edge_at g e.edge) (cond b (d ∷ []) []) ≡ cond b (edge_at g d.edge ∷ []) []
  one true = refl
  one false = refl

  -- an edge that is decided present is added to those
  pub present_push : d.present ≡ true → present_edges whole ≡ present_edges front ++ edge_at g d.edge ∷ []
  present_push e =
      ap (map (λ (x : Decision). edge_at g x.edge)) (filter-append (λ (x : Decision). x.present) ds (d ∷ []))
      ∙ map-append (λ (x : Decision). edge_at g x.edge) (filter (λ (x : Decision). x.present) ds)
      (filter (λ (x : Decision). x.present) (d ∷ []))
      ∙ ap (λ es. present_edges front ++ es) (one d.present ∙ ap (λ b. cond b (edge_at g d.edge ∷ []) []) e)

  -- one that is decided absent isn't
  pub present_skip : d.present ≡ false → present_edges whole ≡ present_edges front
  present_skip e =
      ap (map (λ (x : Decision). edge_at g x.edge))
      (filter-append (λ (x : Decision). x.present) ds (d ∷ [])
      ∙ ap (λ b. filter (λ (x : Decision). x.present) ds ++ cond b (d ∷ []) []) e
      ∙ append-nil (filter (λ (x : Decision). x.present) ds))

  -- without the last one
  pub present_back : (es : List Edge) → d.present ≡ true → es ≡ present_edges whole
      → take (length es - 1) es ≡ present_edges front
  present_back es p e =
      let q = e ∙ present_push p in
      let n = ap length q ∙ length_push (present_edges front) (edge_at g d.edge) in
      ap (take (length es - 1)) q
      ∙ ap (λ k. take k (present_edges front ++ edge_at g d.edge ∷ []))
      (let m : length es - 1 ≡ length (present_edges front) = omega (arith, n) in m)
      ∙ take-append_seam (present_edges front) (edge_at g d.edge ∷ [])

  -- an edge that is undecided isn't among them
  pub present_new : AllPairs ◌≢◌ g.edges → AreDecisions front → d.edge < length g.edges
      → status_in ds d.edge ≡ None → Contains (present_edges front) (edge_at g d.edge) → ⊥
  present_new differ a h undecided c =
      let t = Contains-from_map (λ (x : Decision). edge_at g x.edge) (filter (λ (x : Decision). x.present) ds)
      (edge_at g d.edge) c in
      let f : Decision = t.0 in
      let k = (Contains-from_filter (λ (x : Decision). x.present) ds f t.1).0 in
      let l : f.edge < length g.edges =
      subst (λ (e : Decision). e.edge < length g.edges) k.2 (a.edges k.0 f k.1) in
      let same : f.edge ≡ d.edge =
      Distinct-places g.edges (Distinct-from_AllPairs g.edges differ) f.edge d.edge
      (record { child = 0; parent = 0 }) l h
      t.2 in
      none_status ds d.edge undecided
      (subst (λ y. Contains (edges_of ds) y) same (Contains-map (λ (e : Decision). e.edge) ds f k))

-- ---- what the edges say

-- to reach is to be, or to climb to
pub reaches_is : (es : List Edge) (c d : ℕ) → ((c ≡ d) ⊎ Climb (Joins es) c d) ↔ IsOrLeads (Joins es) c d
reaches_is es c d = (
  λ o. elim o [ inl e ↦ inl e | inr w ↦ inr (leads_from_Climb w) ],
  λ o. elim o [ inl e ↦ inl e | inr l ↦ inr (Climb-from_leads l) ],
)

-- a bypass among the graph's edges is a shortcut in it
pub shortcut_is : (g : Graph) → HoldsBypass g.edges ↔ HoldsShortcut g
shortcut_is g = (
  λ b. record {
    child = b.child;
    parent = b.bypass.0;
    through = b.through;
    edge = b.bypass.1;
    first = b.first;
    rest = b.bypass.2;
  },
  λ s. record { child = s.child; through = s.through; first = s.first; bypass = (s.parent, s.edge, s.rest) },
)

-- ---- the table of what was decided

-- the table with the new decision
pub statuses_push : (ss : List (Option Bool)) (ds : List Decision) (d : Decision) (i : ℕ) → i ≡ d.edge → i < length ss
    → status_in ds d.edge ≡ None → ((e : ℕ) → get_or ss e None ≡ status_in ds e)
    → (e : ℕ) → get_or (set ss i (Some d.present)) e None ≡ status_in (ds ++ d ∷ []) e
statuses_push ss ds d i q h undecided f e = elim (cases_eq e i) [
  | inl k ↦
      ap (λ j. get_or (set ss i (Some d.present)) j None) k ∙ get_or-set_same ss i (Some d.present) None h
      ∙ sym (ap (status_in (ds ++ d ∷ [])) (k ∙ q) ∙ status_new ds d undecided)
  | inr n ↦
      get_or-set_other ss i e (Some d.present) None n ∙ f e ∙ sym (status_other ds d e (λ k. n (k ∙ sym q)))
]

-- the table without the last one
pub statuses_pop : (ss : List (Option Bool)) (ds : List Decision) (d : Decision) (i : ℕ) → i ≡ d.edge → i < length ss
    → (Contains (edges_of ds) d.edge → ⊥) → ((e : ℕ) → get_or ss e None ≡ status_in (ds ++ d ∷ []) e)
    → (e : ℕ) → get_or (set ss i None) e None ≡ status_in ds e
statuses_pop ss ds d i q h new f e = elim (cases_eq e i) [
  | inl k ↦
      ap (λ j. get_or (set ss i None) j None) k ∙ get_or-set_same ss i None None h
      ∙ sym (ap (status_in ds) (k ∙ q) ∙ status_none ds d.edge new)
  | inr n ↦ get_or-set_other ss i e None None n ∙ f e ∙ status_other ds d e (λ k. n (k ∙ sym q))
]

-- ---- a push that succeeded

-- where there was room, the list is the longer one
pub pushed : {X : Type 0} (ok : Bool) (xs a b : List X) → ok ≡ true → xs ≡ cond ok a b → xs ≡ a
pushed ok xs a b h e = e ∙ ap (λ t. cond t a b) h
