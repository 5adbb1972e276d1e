-- The edge from one category to another, found among the edges out of the child; and a graph's other look-ups.
use Rattle.std.proofs.Common.{Bool, ◌≡◌, ◌≢◌, ◌↔◌, ℕ, ◌<◌, List, length, get_or, map, Option, Some, None, false, refl, ap, sym, subst, ◌∙◌, arith, zero-add}
use Rattle.std.{proofs.lemmas.List.{get_or-map, get_or_default, length-map}, specs.FinSet.contains}
use Rattle.std.specs.{Option.option_map, Prelude.{AllPairs, Contains, IfNone, IfSome, IsTrue}}
use Rattle.olap_base.specs.Graph.{CategoryReaches, Graph, HasEdge, IsBottom, IsCategory, category_count}
use Rattle.olap_base.specs.declared.ids.EdgeId.{EdgeId}
use Rattle.olap_bits.specs.{Sets.members, declared.sets.CatSet.CatSet}
use Rattle.olap_graph.proofs.{GrowthLemmas.headed_length, PlaceLemmas.{found, first_at, joins-Decides}}
use Rattle.olap_graph.proofs.{RowLemmas.row_read, TableLemmas.{out_is, out_read, parents_are}}
use Rattle.olap_graph.specs.{Inside.{IsFinished, finished}, Listing.edge_of}
use Rattle.olap_graph.specs.{Lookups.{edge_at, edge_between, edges_from, joins}, Marking.parents_of, Rows.row}
use Rattle.olap_graph.specs.{Tables.drawn, declared.graphs.Graph.TheInside.Inside, declared.listing.Ends.Ends}

-- among edges that differ each is found at its place
edge_between-at : (g : Graph) (c d k : ℕ) → AllPairs ◌≢◌ g.edges → k < length g.edges
    → edge_at g k ≡ record { child = c; parent = d } → edge_between g c d ≡ Some k
edge_between-at g c d k differ h e =
    first_at (joins c d) (λ x. x ≡ record { child = c; parent = d }) (joins-Decides c d) g.edges 0 k
    (record { child = 0; parent = 0 }) h e
    (λ j b q. differ j k (record { child = 0; parent = 0 }) b h (q ∙ sym e)) ∙ ap (λ (i : ℕ). Some i) (zero-add k)

-- and none is found that isn't there
edge_between-none : (g : Graph) (c d : ℕ) → (HasEdge g c d → ⊥) → edge_between g c d ≡ None
edge_between-none g c d none = go (edge_between g c d) refl
  where
    go : (o : Option ℕ) → edge_between g c d ≡ o → o ≡ None
    go None e = refl
    go (Some i) e =
        let r = found (joins c d) (λ x. x ≡ record { child = c; parent = d }) (joins-Decides c d) g.edges 0 i e in
        absurd (none (r.0, r.2, r.3 (record { child = c; parent = d })))

-- what is found among the edges out of c is the edge from c
leading_is : (g : Graph) (c d : ℕ) (out : List EdgeId) (r : Option EdgeId) → AllPairs ◌≢◌ g.edges
    → map (λ e. e.0) out ≡ edges_from g c
    → IfSome r (λ e. Contains out e × ((edge_at g e.0).parent ≡ d)) → IfNone r (Contains (parents_of g out) d → ⊥)
    → option_map (λ e. e.0) r ≡ edge_between g c d
leading_is g c d out None differ q some none = sym (edge_between-none g c d (λ h. none ((parents_are g c out q d).1 h)))
leading_is g c d out (Some e) differ q some none =
    let t = out_is g c out e q some.0 in
    let same : edge_at g e.0 ≡ record { child = c; parent = d } = λ i. record { child = t.1 i; parent = some.1 i } in
    sym (edge_between-at g c d e.0 differ t.0 same)

-- a graph's look-ups in its tables
module _ {a : Inside} (t : IsFinished a) {v : Graph} (is : finished a ≡ v) where
  -- there are as many names as categories
  pub names_counted : length a.names.items ≡ category_count v
  names_counted = headed_length a.names.items a.numbers.items a.edges.items t.headed ∙ ap category_count is

  -- the edges out of a category
  pub out_here : (c i : ℕ) (row out : List EdgeId) → c < category_count v → i ≡ c
      → row ≡ get_or a.tables.out.items i row → out ≡ row → map (λ e. e.0) out ≡ edges_from v c
  out_here c i row out h e q o =
      rw (← is) (out_read (drawn a.edges.items) (length a.names.items) a.tables.out.items c i row out t.tables.out
      (rw names_counted h) e q o)

  -- the edge from one category to another, found among those
  pub edge_here : (c d : ℕ) (out : List EdgeId) (ends : List Ends) (r : Option EdgeId)
      → map (λ e. e.0) out ≡ edges_from v c → ends ≡ a.edges.items
      → IfSome r (λ e. Contains out e × ((edge_at (drawn ends) e.0).parent ≡ d))
      → IfNone r (Contains (parents_of (drawn ends) out) d → ⊥) → option_map (λ e. e.0) r ≡ edge_between v c d
  edge_here c d out ends r q e some none =
      rw (← is) (leading_is (finished a) c d out r t.hierarchy.edges_differ (q ∙ ap (λ g. edges_from g c) (sym is))
      (rw e at some) (rw e at none))

  -- the ends that are read from the list are categories
  pub ends_here : (k i : ℕ) (x : Ends) → k < length v.edges → i ≡ k → x ≡ get_or a.edges.items i x
      → IsCategory v x.child.0 × IsCategory v x.parent.0
  ends_here k i x h e q =
      let edges_is = ap (λ (g : Graph). length g.edges) is in
      let read = get_or-map edge_of a.edges.items k x (edge_of x)
      (omega (arith, length-map a.edges.items edge_of, edges_is, h))
      ∙ ap edge_of (ap (λ j. get_or a.edges.items j x) (sym e) ∙ sym q) in
      rw (← is) (t.hierarchy.categories x.child.0 x.parent.0 (k, omega (arith, edges_is, h), read))

  -- what is read from the marks
  pub bottom_here : (c i : ℕ) (r : Bool) → c < category_count v → i ≡ c → r ≡ get_or a.tables.bottoms.items i r
      → IsTrue r ↔ IsBottom v c
  bottom_here c i r h e q =
      let b = t.tables.bottoms.exact c (rw names_counted h) in
      let l : c < length a.tables.bottoms.items = omega (arith, t.tables.bottoms.count, names_counted, h) in
      let read = get_or_default a.tables.bottoms.items c false r l
      ∙ ap (λ j. get_or a.tables.bottoms.items j r) (sym e) ∙ sym q in
      rw (← is) (
        λ m. let u = b.0 (read ∙ m) in ((u.0, subst (λ g. IsCategory g c) (sym is) h), u.1),
        λ u. sym read ∙ b.1 (u.0.0, u.1),
      )

  -- what is read from a category's set
  pub reached_here : (c d i : ℕ) (set : CatSet 4) (r : Bool) → c < category_count v → i ≡ c
      → set ≡ get_or a.tables.reached.items i set → r ≡ contains (members set) d → IsTrue r ↔ CategoryReaches v c d
  reached_here c d i set r h e q f =
      let rows = a.tables.reached.items in
      let l : i < length rows = omega (arith, t.tables.reached.count, names_counted, h, e) in
      let m = t.tables.reached.each c d (rw names_counted h) in
      let read = f ∙ ap (λ s. contains s d) (row_read rows i set l q ∙ ap (row rows) e) in
      rw (← is) (λ y. m.0 (sym read ∙ y), λ u. read ∙ m.1 u)
