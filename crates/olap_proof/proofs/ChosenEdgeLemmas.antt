-- Where nothing is left to decide: the edges that were decided present, and that the laws hold where no line closes.
--     joins_decided      a chosen edge was decided present
--     known_present      what is known to have a member has one
use Rattle.std.proofs.Common.{◌≡◌, ℕ, zero, suc, ◌<◌, List, [], ◌∷◌, length, map, get_or, Bool, true, false, cond, Option, Some, None, refl, ap, sym, subst, ◌∙◌, ◌⊎◌, inl, inr, arith}
use Rattle.std.proofs.lemmas.Bool.{ne_eqb, false_from_ne_true, or_cases, eqb-true, eq-eqb}
use Rattle.std.proofs.lemmas.List.Elements.{All-contains, All-cons, All-nil, Contains-append_cases, Contains-append_left}
use Rattle.std.{proofs.lemmas.List.FromFn.get_or-map-range_with_len, specs.List.{list_any, range_with_len}}
use Rattle.std.specs.Prelude.{All, Contains, ◌==◌, ◌||◌, ◌≢◌, filter}
use Rattle.olap_base.proofs.AboveLemmas.{tally-lt}
use Rattle.olap_base.proofs.ListLemmas.{Contains-filter, Contains-from_filter, Contains-from_map, Contains-from_range, Contains-map, Contains-nil, Contains-range, Distinct, Distinct-from_AllPairs, contains_head, list_any_is}
use Rattle.olap_base.proofs.StepLemmas.{wider, wider_climb}
use Rattle.olap_base.specs.Deciding.{contains_cases, contains_cons, decide_category_reaches}
use Rattle.olap_base.specs.Graph.{CategoryReaches, Edge, Graph, HasEdge, IsCategory, IsHierarchy, category_count}
use Rattle.olap_base.specs.Reaching.{category_reaches, category_reaches_is}
use Rattle.olap_base.specs.Steps.{Climb, Climb.climb, Steps, Steps.here, Steps.step, Steps-append, Steps-from_reaches, reaches_from_Steps}
use Rattle.olap_ast.{proofs.Shape.{left_true, right_true}, specs.Frozen.{Candidates, chosen, is_present}}
use Rattle.olap_ast.specs.Schema.{Schema}
use Rattle.olap_frozen.proofs.ChosenLemmas.{choice_of, chosen_place, place_chosen}
use Rattle.olap_frozen.specs.Chosen.{IsChoice, IsSound, Joins}
use Rattle.olap_graph.specs.Lookups.{edge_at, edges_from}
use Rattle.olap_trail.specs.Decisions.{Decided, Decision, HoldsCycle, HoldsShortcut, present_edges, present_graph, status_in, status_of}
use Rattle.olap_proof.proofs.{AgreeingLemmas.{status_some, walk_present}, TallyLemmas.tally}
use Rattle.olap_proof.specs.{Closing.{IsDead, IsLoose}, FullPlaces.IsFull}
use Rattle.olap_proof.specs.{Places.{Naming, Place, is_known, leading_edges, possible_graph}, Seen.is_possible}
use native.Mathlib.Decide.{ℕ_discrete}
use Rattle.olap_frozen.proofs.ChosenInstance as made

-- ---- decisions

-- where no edge is decided twice, each decision tells of its edge
pub status_there : (ds : List Decision) (d : Decision) → Distinct (map (λ (x : Decision). x.edge) ds) → Contains ds d
    → status_in ds d.edge ≡ Some d.present
status_there [] d n c = absurd (Contains-nil d c)
status_there (f ∷ ds) d n c = elim (contains_cases d f ds c) [
  | inl same ↦ subst (λ (x : Decision). status_in (f ∷ ds) x.edge ≡ Some x.present) same
      (ap (λ b. cond b (Some f.present) (status_in ds f.edge)) (eq-eqb f.edge f.edge refl))
  | inr m ↦ ap (λ b. cond b (Some f.present) (status_in ds d.edge))
      (ne_eqb f.edge d.edge (λ e. n.0 (subst (λ x. Contains (map (λ (x : Decision). x.edge) ds) x) (sym e)
      (Contains-map (λ (x : Decision). x.edge) ds d m))))
      ∙ status_there ds d n.1 m
]

-- a present category stays so if there are more edges
pub present_kept : (r c : ℕ) (es fs : List Edge) → ((x y : ℕ) → Joins es x y → Joins fs x y)
    → is_present r es c ≡ true → is_present r fs c ≡ true
present_kept r c es fs f h =
    elim (or_cases (c == r) (list_any (λ (e : Edge). (e.child == c) || (e.parent == c)) es) h) [
      | inl a ↦ left_true (c == r) (list_any (λ (e : Edge). (e.child == c) || (e.parent == c)) fs) a
      | inr a ↦
          let w = (list_any_is (λ (e : Edge). (e.child == c) || (e.parent == c)) es).0 a in
          right_true (c == r) (list_any (λ (e : Edge). (e.child == c) || (e.parent == c)) fs)
          ((list_any_is (λ (e : Edge). (e.child == c) || (e.parent == c)) fs).1
          (w.0, f w.0.child w.0.parent w.1, w.2))
    ]

-- ---- the value

-- a bit for what was decided
abbrev pub bit_of : Option Bool → Bool
bit_of None = false
bit_of (Some b) = b

-- the edges that were decided present, as bits
abbrev pub bits_of : Graph → List Decision → List Bool
bits_of g ds = map (λ e. bit_of (status_in ds e)) (range_with_len 0 (length g.edges))

-- the edges that were decided present
abbrev pub edges_chosen : Graph → List Decision → List Edge
edges_chosen g ds = chosen g.edges (bits_of g ds)

module _ (s : Schema) (k : Candidates) (hier : IsHierarchy s.graph) (r : ℕ) (ds : List Decision) (ns : List Naming)
    (full : IsFull s.graph k (record {
      decided = record { graph = s.graph; root = r; decisions = ds };
      namings = ns;
      ways = [];
    })) where
  abbrev pub t : Decided
  t = record { graph = s.graph; root = r; decisions = ds }

  abbrev pub p : Place
  p = record { decided = record { graph = s.graph; root = r; decisions = ds }; namings = ns; ways = [] }

  abbrev pub es : List Edge
  es = edges_chosen s.graph ds

  abbrev pub present : ℕ → Bool
  present = is_present r es

  abbrev nowhere : Edge
  nowhere = record { child = 0; parent = 0 }

  pub ch : IsChoice s.graph r es
  ch = choice_of s.graph r (bits_of s.graph ds) hier full.decisions.root

  -- an edge that was decided present
  abbrev pub IsTaken : Edge → Type 0
  IsTaken x = (e : ℕ) × (e < length s.graph.edges) × (status_in ds e ≡ Some true) × (edge_at s.graph e ≡ x)

  pub status_full : (e : ℕ) → e < length s.graph.edges → (b : Bool) × (status_in ds e ≡ Some b)
  status_full e h = go (status_in ds e) refl
    where
      go : (o : Option Bool) → status_in ds e ≡ o → (b : Bool) × (status_in ds e ≡ Some b)
      go None q = absurd (full.edges e h q)
      go (Some b) q = (b, q)

  pub bit_at : (e : ℕ) → e < length s.graph.edges → get_or (bits_of s.graph ds) e false ≡ bit_of (status_in ds e)
  bit_at e h =
      get_or-map-range_with_len (λ e. bit_of (status_in ds e)) 0 (length s.graph.edges) e e false h (omega arith)

  pub joins_decided : (x y : ℕ) → Joins es x y → IsTaken (record { child = x; parent = y })
  joins_decided x y j =
      let w = chosen_place s.graph.edges (bits_of s.graph ds) (record { child = x; parent = y }) nowhere j in
      let q = status_full w.0 w.1 in
      (w.0, w.1, q.1 ∙ ap Some (sym (ap bit_of q.1) ∙ sym (bit_at w.0 w.1) ∙ w.2), w.3)

  pub taken_joins : (x : Edge) → IsTaken x → Contains es x
  taken_joins x w =
      place_chosen s.graph.edges (bits_of s.graph ds) x nowhere w.0 w.1 (bit_at w.0 w.1 ∙ ap bit_of w.2) w.3

  pub taken_present : (x : Edge) → IsTaken x → Contains (present_edges t) x
  taken_present x w =
      let d = status_some ds w.0 true w.2 in
      subst (λ z. Contains (present_edges t) z) (ap (edge_at s.graph) d.2 ∙ w.3)
      (Contains-map (λ (d : Decision). edge_at s.graph d.edge) (filter (λ (d : Decision). d.present) ds) d.0
      (Contains-filter (λ (d : Decision). d.present) ds d.0 d.3 d.1))

  pub present_taken : (x : Edge) → Contains (present_edges t) x → IsTaken x
  present_taken x c =
      let m = Contains-from_map (λ (d : Decision). edge_at s.graph d.edge)
      (filter (λ (d : Decision). d.present) ds) x c in
      let u = Contains-from_filter (λ (d : Decision). d.present) ds m.0 m.1 in (
        m.0.edge,
        All-contains (λ (d : Decision). d.edge < length s.graph.edges) ds m.0 full.decisions.edges u.0,
        status_there ds m.0
            (Distinct-from_AllPairs (map (λ (d : Decision). d.edge) ds) full.decisions.edges_differ) u.0
            ∙ ap Some u.1,
        m.2,
      )

  pub possible_taken : (x : Edge) → Contains (possible_graph t).edges x → IsTaken x
  possible_taken x c =
      let m = Contains-from_map (edge_at s.graph)
      (filter (λ e. is_possible (status_of t e)) (range_with_len 0 (length s.graph.edges))) x c in
      let u = Contains-from_filter (λ e. is_possible (status_of t e)) (range_with_len 0 (length s.graph.edges))
      m.0 m.1 in
      let h = Contains-from_range (length s.graph.edges) m.0 u.0 in
      let q = status_full m.0 h in
      (m.0, h, q.1 ∙ ap Some (sym (ap is_possible q.1) ∙ u.1), m.2)

  pub taken_possible : (x : Edge) → IsTaken x → Contains (possible_graph t).edges x
  taken_possible x w =
      subst (λ z. Contains (possible_graph t).edges z) w.3
      (Contains-map (edge_at s.graph)
      (filter (λ e. is_possible (status_of t e)) (range_with_len 0 (length s.graph.edges))) w.0
      (Contains-filter (λ e. is_possible (status_of t e)) (range_with_len 0 (length s.graph.edges)) w.0
      (ap is_possible w.2) (Contains-range (length s.graph.edges) w.0 w.1)))

  -- ---- chosen edges, present ones and possible ones are the same

  pub joins_present : (x y : ℕ) → Joins es x y → HasEdge (present_graph t) x y
  joins_present x y j = taken_present (record { child = x; parent = y }) (joins_decided x y j)

  pub present_joins : (x y : ℕ) → HasEdge (present_graph t) x y → Joins es x y
  present_joins x y c =
      taken_joins (record { child = x; parent = y }) (present_taken (record { child = x; parent = y }) c)

  pub joins_possible : (x y : ℕ) → Joins es x y → HasEdge (possible_graph t) x y
  joins_possible x y j = taken_possible (record { child = x; parent = y }) (joins_decided x y j)

  pub possible_joins : (x y : ℕ) → HasEdge (possible_graph t) x y → Joins es x y
  possible_joins x y c =
      taken_joins (record { child = x; parent = y }) (possible_taken (record { child = x; parent = y }) c)

  pub joins_leading : (x y : ℕ) → Joins es x y → Joins (leading_edges p) x y
  joins_leading x y j =
      Contains-append_left (present_edges t) [] (record { child = x; parent = y }) (joins_present x y j)

  pub leading_joins : (x y : ℕ) → Joins (leading_edges p) x y → Joins es x y
  leading_joins x y c = elim (Contains-append_cases (present_edges t) [] (record { child = x; parent = y }) c) [
    | inl a ↦ present_joins x y a
    | inr z ↦ absurd (Contains-nil (record { child = x; parent = y }) z)
  ]

  pub known_present : (c : ℕ) → is_known p c ≡ true → present c ≡ true
  known_present c h = present_kept r c (leading_edges p) es leading_joins h

  pub present_known : (c : ℕ) → present c ≡ true → is_known p c ≡ true
  present_known c h = present_kept r c es (leading_edges p) joins_leading h

  -- the child of an edge that was decided present is known
  pub child_known : (e : ℕ) → e < length s.graph.edges → status_in ds e ≡ Some true
      → is_known p (edge_at s.graph e).child ≡ true
  child_known e h q =
      let x = edge_at s.graph e in
      present_known x.child
      (made.child_present s.graph r es ch x.child x.parent (taken_joins x (e, h, q, refl)))

  pub steps_present : (c d : ℕ) → Steps (Joins es) c d → category_reaches (present_graph t) c d ≡ true
  steps_present c d w = (category_reaches_is (present_graph t) c d).1 (reaches_from_Steps (wider joins_present w))

  pub present_steps : (c d : ℕ) → category_reaches (present_graph t) c d ≡ true → Steps (Joins es) c d
  present_steps c d h = wider present_joins (Steps-from_reaches ((category_reaches_is (present_graph t) c d).0 h))

  -- ---- the laws

  -- some edge of these was decided present, or all were decided absent
  pub some_or_none : (xs : List ℕ) → ((e : ℕ) → Contains xs e → e < length s.graph.edges)
      → ((e : ℕ) × Contains xs e × (status_in ds e ≡ Some true)) ⊎ All (λ e. status_of t e ≡ Some false) xs
  some_or_none [] f = inr (All-nil (λ e. status_of t e ≡ Some false))
  some_or_none (e ∷ xs) f =
      go (status_full e (f e (contains_head e xs))).0 (status_full e (f e (contains_head e xs))).1
      (some_or_none xs (λ x c. f x (contains_cons x xs e c)))
    where
      go : (b : Bool) → status_in ds e ≡ Some b
          → ((x : ℕ) × Contains xs x × (status_in ds x ≡ Some true)) ⊎ All (λ e. status_of t e ≡ Some false) xs
          → ((x : ℕ) × Contains (e ∷ xs) x × (status_in ds x ≡ Some true))
          ⊎ All (λ e. status_of t e ≡ Some false) (e ∷ xs)
      go true q rest = inl (e, contains_head e xs, q)
      go false q (inl w) = inl (w.0, contains_cons w.0 xs e w.1, w.2)
      go false q (inr a) = inr (All-cons (λ e. status_of t e ≡ Some false) e xs q a)

  -- an edge out of c, as the list of those has it
  pub edge_out : (c e : ℕ) → Contains (edges_from s.graph c) e
      → (e < length s.graph.edges) × ((edge_at s.graph e).child ≡ c)
  edge_out c e m =
      let u = Contains-from_filter (λ e. (edge_at s.graph e).child == c) (range_with_len 0 (length s.graph.edges))
      e m in
      (Contains-from_range (length s.graph.edges) e u.0, eqb-true (edge_at s.graph e).child c u.1)

  module _ (no_cycle : HoldsCycle (present_graph t) → ⊥) (no_shortcut : HoldsShortcut (present_graph t) → ⊥)
      (no_dead : (c : ℕ) → IsCategory s.graph c → IsDead s.graph p c → ⊥)
      (no_loose : (e : ℕ) → e < length s.graph.edges → IsLoose s.graph p e → ⊥) where
    upward : (c : ℕ) → present c ≡ true → c ≢ 0 → (d : ℕ) × Joins es c d
    upward c h n = go (some_or_none (edges_from s.graph c) (λ e m. (edge_out c e m).0))
      where
        go : ((e : ℕ) × Contains (edges_from s.graph c) e × (status_in ds e ≡ Some true))
            ⊎ All (λ e. status_of t e ≡ Some false) (edges_from s.graph c) → (d : ℕ) × Joins es c d
        go (inl w) =
            let o = edge_out c w.0 w.1 in (
              (edge_at s.graph w.0).parent,
              subst (λ x. Joins es x (edge_at s.graph w.0).parent) o.1
                  (taken_joins (edge_at s.graph w.0) (w.0, o.0, w.2, refl)),
            )
        go (inr a) = absurd (no_dead c (made.present_category s.graph r es ch c h) (n, present_known c h, a))

    child_reached : (c d : ℕ) → Joins es c d → Steps (Joins es) r c
    child_reached c d j = elim (ℕ_discrete c r) [
      | yes e ↦ subst (λ x. Steps (Joins es) r x) (sym e) here
      | no n ↦ elim (decide_category_reaches (possible_graph t) r c) [
        | yes w ↦ wider possible_joins (Steps-from_reaches w)
        | no m ↦
            let w = joins_decided c d j in
            let q = ap (λ (x : Edge). x.child) w.3 in
            absurd (no_loose w.0 w.1 (
              λ e. n (sym q ∙ e),
              w.2,
              λ v. m (subst (λ x. CategoryReaches (possible_graph t) r x) q v),
            ))
      ]
    ]

    root_reaches : (c : ℕ) → present c ≡ true → Steps (Joins es) r c
    root_reaches c h = elim (made.present_cases s.graph r es ch c h) [
      | inl e ↦ subst (λ x. Steps (Joins es) r x) (sym e) here
      | inr w ↦ elim w [
        | inl u ↦ child_reached c u.0 u.1
        | inr u ↦ Steps-append (child_reached u.0 c u.1) (step u.1 here)
      ]
    ]

    acyclic : (c : ℕ) → Climb (Joins es) c c → ⊥
    acyclic c w = no_cycle (c, wider_climb joins_present w)

    -- how many categories c reaches
    abbrev count : ℕ → ℕ
    count c = tally (category_reaches (present_graph t) c) (range_with_len 0 (category_count s.graph))

    -- a parent reaches fewer
    fewer : (c d : ℕ) → Joins es c d → count d < count c
    fewer c d j =
        tally-lt (category_reaches (present_graph t) d) (category_reaches (present_graph t) c)
        (range_with_len 0 (category_count s.graph))
        (λ y h. steps_present c y (step j (present_steps d y h))) c
        (Contains-range (category_count s.graph) c (made.joined_categories s.graph r es ch c d j).0)
        (false_from_ne_true (category_reaches (present_graph t) d c) (λ h. acyclic c (climb j (present_steps d c h))))
        (steps_present c c here)

    climbs_to_all : (n c : ℕ) → count c < n → present c ≡ true → Steps (Joins es) c 0
    climbs_to_all zero c l h = absurd (omega arith)
    climbs_to_all (suc n) c l h = elim (ℕ_discrete c 0) [
      | yes e ↦ subst (λ x. Steps (Joins es) c x) e here
      | no m ↦
          let u = upward c h m in
          let f = fewer c u.0 u.1 in
          step u.1 (climbs_to_all n u.0 (omega arith) (made.parent_present s.graph r es ch c u.0 u.1))
    ]

    -- what is present reaches all
    pub reaches_all : (c : ℕ) → present c ≡ true → Steps (Joins es) c 0
    reaches_all c h = climbs_to_all (suc (count c)) c (omega arith) h

    -- the laws hold
    pub sound : IsSound r es
    sound = record {
      top =
          let root = made.root_present s.graph r es ch in
          walk_present s.graph r es ch root (reaches_all r root);
      reached = root_reaches;
      upward = upward;
      acyclic = acyclic;
      straight = λ c d e j i w. no_shortcut (record {
        child = c;
        parent = d;
        through = e;
        edge = joins_present c d j;
        first = joins_present c e i;
        rest = wider_climb joins_present w;
      });
    }
