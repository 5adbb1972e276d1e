-- A trail with one decision more, and without its last one.
use Rattle.std.proofs.Common.{◌≡◌, ◌+◌, ◌-◌, ◌<◌, ◌≤◌, ◌++◌, ◌∷◌, ◌∙◌, [], ℕ, List, Vec, Global, Option, Bool, None, Some, length, set, take, true, false, ap, sym, arith}
use Rattle.std.proofs.{Math.ListN.length-set, lemmas.List.{length-map, length_push, map_push}}
use Rattle.std.specs.Prelude.{Contains, vec_capacity}
use Rattle.olap_base.specs.Graph.{Edge, IsCategory}
use Rattle.olap_graph.specs.Lookups.{edge_at}
use Rattle.olap_trail.proofs.CountingLemmas.{few_decisions, few_present}
use Rattle.olap_trail.proofs.DecisionLemmas.{decisions_pop, decisions_push, front, last_edge, last_new, present_back, present_new, present_push, present_skip, statuses_pop, statuses_push, whole}
use Rattle.olap_trail.specs.Decisions.{AreDecisions, Decided, present_edges, status_in, status_of}
use Rattle.olap_trail.specs.{Drawing.{Drawing, edge_of}, Inside.{IsTrail, decided}, Trails.{decision_of, decisions_of}}
use Rattle.olap_trail.specs.declared.{decisions.Decision.{Decision as OneDecision}, drawing.Ends.Ends}
use Rattle.olap_trail.specs.declared.trails.Trail.TheInside.{Inside}

-- with these decisions, this table and this drawing
abbrev pub changed : {W : ℕ} → Inside W → Vec OneDecision Global → Vec (Option Bool) Global → Drawing → Inside W
changed a list table drawn = record a { decisions = list; statuses = table; drawn = drawn }

-- a decision on an edge that is undecided
module _ {W : ℕ} {a : Inside W} (t : IsTrail a) {v : Decided} (is : decided a ≡ v) (d : OneDecision)
    (inside : d.edge.0 < length v.graph.edges) (undecided : status_of v d.edge.0 ≡ None) where
  -- the decisions with it
  abbrev more_decisions : Decided
  more_decisions = whole a.graph a.root.0 (decisions_of a.decisions.items) (decision_of d)

  -- its edge is one of the graph
  pub edge_inside : d.edge.0 < length a.graph.edges
  edge_inside = rw (← is) at inside

  -- and undecided
  edge_open : status_in (decisions_of a.decisions.items) d.edge.0 ≡ None
  edge_open = rw (← is) at undecided

  -- they are decisions
  more_are : AreDecisions more_decisions
  more_are = decisions_push a.graph a.root.0 (decided a).decisions (decision_of d) t.decisions edge_inside edge_open

  -- there is room for it
  pub has_room : length a.decisions.items < vec_capacity a.decisions
  has_room =
      let n = few_decisions more_decisions more_are in
      let l = length_push (decided a).decisions (decision_of d) in
      omega (arith, n, l, length-map a.decisions.items decision_of, t.reserved)

  -- its edge may be drawn
  pub may_draw : (e : Ends) → edge_at v.graph d.edge.0 ≡ edge_of e → IsCategory v.graph e.child.0
      → IsCategory v.graph e.parent.0 → (e.child.0 < a.drawn.count) × ((e.parent.0 < a.drawn.count)
      × ((length a.drawn.edges + 1 < a.drawn.room) × (Contains a.drawn.edges (edge_of e) → ⊥)))
  may_draw e edge child parent =
      let n = few_decisions more_decisions more_are in
      let l = length_push (decided a).decisions (decision_of d) in
      let p = few_present (decided a) in
      let q = ap length t.edges in
      let k = rw (← is) at child in
      let m = rw (← is) at parent in
      let x = rw (← is) at edge in (
        omega (arith, k, t.count),
        (
          omega (arith, m, t.count),
          (
            omega (arith, n, l, p, q, t.room),
            λ h.
                present_new a.graph a.root.0 (decided a).decisions (decision_of d) t.hierarchy.edges_differ t.decisions
                edge_inside edge_open (rw (x, ← t.edges) h),
          ),
        ),
      )

  -- where it is present, its edge is the new one
  pub drawn_more : (e : Ends) → edge_at v.graph d.edge.0 ≡ edge_of e → d.present ≡ true
      → a.drawn.edges ++ edge_of e ∷ [] ≡ present_edges more_decisions
  drawn_more e edge p =
      let x = rw (← is) at edge in
      ap (λ es. es ++ edge_of e ∷ []) t.edges ∙ ap (λ f. present_edges (decided a) ++ f ∷ []) (sym x)
      ∙ sym (present_push a.graph a.root.0 (decided a).decisions (decision_of d) p)

  -- where it is absent, there is none
  pub drawn_same : d.present ≡ false → a.drawn.edges ≡ present_edges more_decisions
  drawn_same p = t.edges ∙ sym (present_skip a.graph a.root.0 (decided a).decisions (decision_of d) p)

  -- the trail keeps its promises
  pub trail_push : (list : Vec OneDecision Global) (table : Vec (Option Bool) Global) (drawn : Drawing) (i : ℕ)
      {es : List Edge} → list.items ≡ a.decisions.items ++ d ∷ [] → vec_capacity a.decisions ≤ vec_capacity list
      → i ≡ d.edge.0 → table.items ≡ set a.statuses.items i (Some d.present) → drawn ≡ record a.drawn { edges = es }
      → es ≡ present_edges more_decisions → IsTrail (changed a list table drawn)
  trail_push list table drawn i grown capacity at put drew present =
      let split = ap decisions_of grown ∙ map_push decision_of a.decisions.items d in
      record {
        width = t.width;
        decisions = rw split more_are;
        hierarchy = t.hierarchy;
        few = t.few;
        few_edges = t.few_edges;
        reserved = omega (arith, t.reserved, capacity);
        count = ap (λ (x : Drawing). x.count) drew ∙ t.count;
        room = ap (λ (x : Drawing). x.room) drew ∙ t.room;
        edges = rw split (ap (λ (x : Drawing). x.edges) drew ∙ present);
        size = ap length put ∙ length-set a.statuses.items i (Some d.present) ∙ t.size;
        statuses = λ e. rw (split, put) (statuses_push a.statuses.items (decided a).decisions (decision_of d) i at
            (omega (arith, edge_inside, at, t.size)) edge_open t.statuses e);
      }

-- the last decision, and those before it
module _ {W : ℕ} {a : Inside W} (t : IsTrail a) (list : Vec OneDecision Global) (d : OneDecision)
    (is : a.decisions.items ≡ list.items ++ d ∷ []) where
  -- the decisions before it
  abbrev fewer_decisions : Decided
  fewer_decisions = front a.graph a.root.0 (decisions_of list.items) (decision_of d)

  -- and with it
  abbrev all_decisions : Decided
  all_decisions = whole a.graph a.root.0 (decisions_of list.items) (decision_of d)

  -- the list of them
  split_last : decisions_of a.decisions.items ≡ decisions_of list.items ++ decision_of d ∷ []
  split_last = ap decisions_of is ∙ map_push decision_of list.items d

  -- they are decisions
  all_are : AreDecisions all_decisions
  all_are = rw split_last at t.decisions

  -- the last one's edge is one of the graph
  pub last_inside : d.edge.0 < length a.graph.edges
  last_inside = last_edge a.graph a.root.0 (decisions_of list.items) (decision_of d) all_are

  -- the edges that are drawn
  present_all : a.drawn.edges ≡ present_edges all_decisions
  present_all =
      t.edges ∙ ap (λ ds. present_edges (record { graph = a.graph; root = a.root.0; decisions = ds })) split_last

  -- where the last is present, its edge is the last
  pub drawn_less : d.present ≡ true → take (length a.drawn.edges - 1) a.drawn.edges ≡ present_edges fewer_decisions
  drawn_less p =
      present_back a.graph a.root.0 (decisions_of list.items) (decision_of d) a.drawn.edges p present_all

  -- where it is absent, none goes
  pub drawn_still : d.present ≡ false → a.drawn.edges ≡ present_edges fewer_decisions
  drawn_still p = present_all ∙ present_skip a.graph a.root.0 (decisions_of list.items) (decision_of d) p

  -- the trail keeps its promises without it
  pub trail_pop : (table : Vec (Option Bool) Global) (drawn : Drawing) (i : ℕ) {es : List Edge}
      → vec_capacity list ≡ vec_capacity a.decisions → i ≡ d.edge.0 → table.items ≡ set a.statuses.items i None
      → drawn ≡ record a.drawn { edges = es } → es ≡ present_edges fewer_decisions
      → IsTrail (changed a list table drawn)
  trail_pop table drawn i capacity at put drew present = record {
    width = t.width;
    decisions = decisions_pop a.graph a.root.0 (decisions_of list.items) (decision_of d) all_are;
    hierarchy = t.hierarchy;
    few = t.few;
    few_edges = t.few_edges;
    reserved = omega (arith, t.reserved, capacity);
    count = ap (λ (x : Drawing). x.count) drew ∙ t.count;
    room = ap (λ (x : Drawing). x.room) drew ∙ t.room;
    edges = ap (λ (x : Drawing). x.edges) drew ∙ present;
    size = ap length put ∙ length-set a.statuses.items i None ∙ t.size;
    statuses = rw put (statuses_pop a.statuses.items (decisions_of list.items) (decision_of d) i at
        (omega (arith, last_inside, at, t.size))
        (last_new a.graph a.root.0 (decisions_of list.items) (decision_of d) all_are)
        (λ e. t.statuses e ∙ ap (λ ds. status_in ds e) split_last));
  }
