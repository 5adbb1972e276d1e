-- A frozen dimension that has the edges and the names that were decided has what is known of them.
--     present_joins     one that was decided present is chosen
--     edge_is           what is known of edges is so
--     name_told         a name that was decided is the one
--     cycle_none        the edges that were decided present hold no cycle
--     shortcut_none     and no shortcut
use Rattle.std.proofs.Common.{◌≡◌, ℕ, zero, suc, ◌<◌, List, [], ◌∷◌, length, get_or, Bool, true, false, cond, Option, Some, None, refl, ap, sym, subst, ◌∙◌}
use Rattle.std.{proofs.lemmas.Bool.{eqb-true, eq-eqb}, specs.List.range_with_len}
use Rattle.std.specs.Prelude.{Contains, ◌==◌, filter, option_map}
use Rattle.olap_base.proofs.ListLemmas.{Contains-filter, Contains-from_filter, Contains-from_map, Contains-map, Contains-range, contains_head}
use Rattle.olap_base.{proofs.StepLemmas.wider_climb, specs.Deciding.contains_cons}
use Rattle.olap_base.specs.{Graph.{Edge, Graph, HasEdge, IsCategory, IsHierarchy}, Instance.Instance}
use Rattle.olap_base.specs.Steps.{Steps, Steps.here, Steps.step}
use Rattle.olap_ast.specs.Formula.{Formula}
use Rattle.olap_ast.specs.Frozen.{Candidates, Frozen, IsFrozen, chosen, instance_of, is_present, name_in}
use Rattle.olap_ast.specs.Schema.{Schema}
use Rattle.olap_eval.specs.{Partial.{Agrees as Tells}, Shapes.HasEdgeThere}
use Rattle.olap_frozen.proofs.ChosenLemmas.{bit_joins, choice_of, chosen_place, no_edge_joins, place_chosen}
use Rattle.olap_frozen.specs.Chosen.{IsChoice, IsMet, IsSound, Joins, place_of}
use Rattle.olap_graph.specs.Lookups.{edge_at, edge_between, edges_from}
use Rattle.olap_names.specs.Names.{name_at}
use Rattle.olap_trail.specs.Decisions.{Decided, Decision, HoldsCycle, HoldsShortcut, present_edges, present_graph, status_in, status_of}
use Rattle.olap_proof.specs.{Places.{Naming, index_of, name_of, possible_graph, truth_of_edge}, Seen.is_possible}
use Rattle.olap_proof.specs.Within.{truth_of}
use Rattle.olap_frozen.proofs.ChosenInstance as made

-- ---- what was decided

-- the decision that tells of an edge
pub status_some : (ds : List Decision) (e : ℕ) (b : Bool) → status_in ds e ≡ Some b
    → (d : Decision) × Contains ds d × (d.edge ≡ e) × (d.present ≡ b)
status_some [] e b h = absurd (cc)
status_some (d ∷ ds) e b h = go (d.edge == e) refl h (status_some ds e b)
  where
    go : (t : Bool) → d.edge == e ≡ t → cond t (Some d.present) (status_in ds e) ≡ Some b
        → (status_in ds e ≡ Some b → (x : Decision) × Contains ds x × (x.edge ≡ e) × (x.present ≡ b))
        → (x : Decision) × Contains (d ∷ ds) x × (x.edge ≡ e) × (x.present ≡ b)
    go true p q rest = let same : d.present ≡ b = cc in (d, contains_head d ds, eqb-true d.edge e p, same)
    go false p q rest = let r = rest q in (r.0, contains_cons r.0 ds d r.1, r.2, r.3)

-- and the one that tells of a name
pub index_some : (ns : List Naming) (c i : ℕ) → index_of ns c ≡ Some i
    → (n : Naming) × Contains ns n × (n.category ≡ c) × (n.index ≡ i)
index_some [] c i h = absurd (cc)
index_some (n ∷ ns) c i h = go (n.category == c) refl h (index_some ns c i)
  where
    go : (t : Bool) → n.category == c ≡ t → cond t (Some n.index) (index_of ns c) ≡ Some i
        → (index_of ns c ≡ Some i → (x : Naming) × Contains ns x × (x.category ≡ c) × (x.index ≡ i))
        → (x : Naming) × Contains (n ∷ ns) x × (x.category ≡ c) × (x.index ≡ i)
    go true p q rest = let same : n.index ≡ i = cc in (n, contains_head n ns, eqb-true n.category c p, same)
    go false p q rest = let r = rest q in (r.0, contains_cons r.0 ns n r.1, r.2, r.3)

-- ---- walks

-- what a member's category leads to has a member
pub walk_present : (g : Graph) (r : ℕ) (es : List Edge) → IsChoice g r es → {c d : ℕ} → is_present r es c ≡ true
    → Steps (Joins es) c d → is_present r es d ≡ true
walk_present g r es ch h here = h
walk_present g r es ch h (step {x = c} {y = z} j w) =
    walk_present g r es ch (made.parent_present g r es ch c z j) w

-- ---- what agrees

-- the frozen dimension has the edges and the names that were decided
pub record Like (s : Schema) (k : Candidates) (f : Frozen) (ds : List Decision) (ns : List Naming) : Type 0 where
  pub edges : (d : Decision) → Contains ds d
      → (d.edge < length s.graph.edges) × (get_or f.edges d.edge false ≡ d.present)
  pub names : (n : Naming) → Contains ns n → name_in k f n.category ≡ name_at k n.category n.index

-- the edges that a frozen dimension has
abbrev pub edges_in : Schema → Frozen → List Edge
edges_in s f = chosen s.graph.edges f.edges

-- whether it has a member of the category
abbrev pub is_there : Schema → ℕ → Frozen → ℕ → Bool
is_there s r f c = is_present r (chosen s.graph.edges f.edges) c

-- the place of a chosen edge is among those out of its child
pub edge_from : (s : Schema) (f : Frozen) (c d : ℕ) → Joins (edges_in s f) c d
    → (i : ℕ) × Contains (edges_from s.graph c) i × (get_or f.edges i false ≡ true) × ((edge_at s.graph i).parent ≡ d)
edge_from s f c d j =
    let e : Edge = record { child = c; parent = d } in
    let w = chosen_place s.graph.edges f.edges e (record { child = 0; parent = 0 }) j in (
      w.0,
      Contains-filter (λ e. (edge_at s.graph e).child == c) (range_with_len 0 (length s.graph.edges)) w.0
          (eq-eqb (edge_at s.graph w.0).child c (ap (λ (x : Edge). x.child) w.3))
          (Contains-range (length s.graph.edges) w.0 w.1),
      w.2,
      ap (λ (x : Edge). x.parent) w.3,
    )

module _ (s : Schema) (q : Formula) (r : ℕ) (k : Candidates) (f : Frozen) (hier : IsHierarchy s.graph)
    (root : IsCategory s.graph r) (one : IsFrozen s q r k f)
    (ds : List Decision) (ns : List Naming) (like : Like s k f ds ns) where
  abbrev pub t : Decided
  t = record { graph = s.graph; root = r; decisions = ds }

  abbrev pub es : List Edge
  es = chosen s.graph.edges f.edges

  pub ch : IsChoice s.graph r es
  ch = choice_of s.graph r f.edges hier root

  abbrev pub name : ℕ → List ℕ
  name = name_in k f

  abbrev pub inst : Instance
  inst = instance_of s.graph r es name

  abbrev pub present : ℕ → Bool
  present = is_present r es

  abbrev pub place : ℕ → ℕ
  place = place_of s.graph r es

  abbrev pub nowhere : Edge
  nowhere = record { child = 0; parent = 0 }

  pub sound : IsSound r es
  sound = made.sound_of_frozen s q r es ch name one.stands_for

  pub met : IsMet s q r es name
  met = made.met_of_frozen s q r es ch name one.stands_for

  -- the bit of an edge that was decided
  pub status_bit : (e : ℕ) (b : Bool) → status_of t e ≡ Some b
      → (e < length s.graph.edges) × (get_or f.edges e false ≡ b)
  status_bit e b h =
      let d = status_some ds e b h in
      let l = like.edges d.0 d.1 in (
        subst (λ x. x < length s.graph.edges) d.2 l.0,
        ap (λ x. get_or f.edges x false) (sym d.2) ∙ l.1 ∙ d.3,
      )

  -- an edge that was decided present is chosen
  pub present_contained : (x : Edge) → Contains (present_edges t) x → Contains es x
  present_contained x c =
      let m = Contains-from_map (λ (k : Decision). edge_at s.graph k.edge)
      (filter (λ (k : Decision). k.present) ds) x c in
      let u = Contains-from_filter (λ (k : Decision). k.present) ds m.0 m.1 in
      let l = like.edges m.0 u.0 in
      place_chosen s.graph.edges f.edges x nowhere m.0.edge l.0 (l.1 ∙ u.1) m.2

  pub present_joins : (x y : ℕ) → HasEdge (present_graph t) x y → Joins es x y
  present_joins x y = present_contained (record { child = x; parent = y })

  -- a chosen edge isn't decided absent
  pub possible_at : (e : ℕ) → get_or f.edges e false ≡ true → is_possible (status_of t e) ≡ true
  possible_at e b = go (status_of t e) refl
    where
      go : (o : Option Bool) → status_of t e ≡ o → is_possible o ≡ true
      go None h = refl
      go (Some true) h = refl
      go (Some false) h = absurd (let z : true ≡ false = sym b ∙ (status_bit e false h).1 in cc)

  -- a chosen edge wasn't decided absent
  pub chosen_possible : (x y : ℕ) → Joins es x y → HasEdge (possible_graph t) x y
  chosen_possible x y j =
      let e : Edge = record { child = x; parent = y } in
      let w = chosen_place s.graph.edges f.edges e nowhere j in
      subst (λ z. Contains (possible_graph t).edges z) w.3
      (Contains-map (edge_at s.graph)
      (filter (λ e. is_possible (status_of t e)) (range_with_len 0 (length s.graph.edges))) w.0
      (Contains-filter (λ e. is_possible (status_of t e)) (range_with_len 0 (length s.graph.edges)) w.0
      (possible_at w.0 w.2) (Contains-range (length s.graph.edges) w.0 w.1)))

  pub steps_present : {c d : ℕ} → present c ≡ true → Steps (Joins es) c d → present d ≡ true
  steps_present h w = walk_present s.graph r es ch h w

  -- ---- what is known is so

  pub edge_is : (c d : ℕ) → Tells (truth_of_edge t (edge_between s.graph c d)) (HasEdgeThere inst present place c d)
  edge_is c d = go (edge_between s.graph c d) refl
    where
      of_status : (i : ℕ) → edge_between s.graph c d ≡ Some i → (o : Option Bool) → status_of t i ≡ o
          → Tells (truth_of o) (HasEdgeThere inst present place c d)
      of_status i e None h = tt
      of_status i e (Some true) h =
          let j = (bit_joins s.graph f.edges c d i hier e).0 (status_bit i true h).1 in (
            made.child_present s.graph r es ch c d j,
            made.parent_present s.graph r es ch c d j,
            made.edge_below s.graph r es ch name c d j,
          )
      of_status i e (Some false) h = λ w.
          let b = (bit_joins s.graph f.edges c d i hier e).1
          ((made.below_joins s.graph r es ch name c d w.0 w.1).0 w.2) in
          let z : true ≡ false = sym b ∙ (status_bit i false h).1 in cc

      go : (o : Option ℕ) → edge_between s.graph c d ≡ o
          → Tells (truth_of_edge t o) (HasEdgeThere inst present place c d)
      go None e = λ h. no_edge_joins s.graph f.edges c d e
          ((made.below_joins s.graph r es ch name c d h.0 h.1).0 h.2)
      go (Some i) e = of_status i e (status_of t i) refl

  pub name_told : (c : ℕ) (w : List ℕ) → name_of k ns c ≡ Some w → name c ≡ w
  name_told zero w h = cc
  name_told (suc c) w h = go (index_of ns (suc c)) refl h
    where
      go : (o : Option ℕ) → index_of ns (suc c) ≡ o → option_map (name_at k (suc c)) o ≡ Some w → name (suc c) ≡ w
      go None e h = absurd (cc)
      go (Some i) e h =
          let n = index_some ns (suc c) i e in
          let same : name_at k (suc c) i ≡ w = cc in
          subst (λ x. name x ≡ name_at k x n.0.index) n.2 (like.names n.0 n.1)
          ∙ ap (λ x. name_at k (suc c) x) n.3 ∙ same

  pub cycle_none : HoldsCycle (present_graph t) → ⊥
  cycle_none h = sound.acyclic h.0 (wider_climb present_joins h.1)

  pub shortcut_none : HoldsShortcut (present_graph t) → ⊥
  shortcut_none h = sound.straight h.child h.parent h.through (present_joins h.child h.parent h.edge)
      (present_joins h.child h.through h.first) (wider_climb present_joins h.rest)
