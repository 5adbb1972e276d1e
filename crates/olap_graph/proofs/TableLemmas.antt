-- What the tables of a graph say of it, and how they are filled.
use Rattle.std.proofs.Common.{◌≡◌, ◌≢◌, ℕ, zero, suc, ◌+◌, ◌<◌, ◌↔◌, ◌==◌, List, [], ◌∷◌, ◌++◌, length, get_or, set, map, cond, Bool, true, false, refl, ap, sym, subst, ◌∙◌, inl, arith, get_or-set_other}
use Rattle.std.proofs.lemmas.{Bool.Decides.Decides-eqb, List.{get_or-map, get_or_default, map_push, map-id}}
use Rattle.std.proofs.lemmas.List.{Elements.{Contains-get_or, filter-append}, FromFn.map-range_with_len_more}
use Rattle.std.specs.{List.range_with_len, Prelude.{All, Contains, filter}}
use Rattle.olap_base.proofs.ListLemmas.{Contains-filter, Contains-from_filter, Contains-map, Contains-from_map, Contains-range, Contains-from_range}
use Rattle.olap_base.specs.Graph.{Edge, Graph, HasEdge, IsCategory, IsHierarchy, CategoryReaches, category_count}
use Rattle.olap_base.specs.declared.ids.{CatId.CatId, EdgeId.EdgeId}
use Rattle.olap_bits.specs.declared.sets.CatSet.{CatSet}
use Rattle.olap_graph.specs.{Building.{IsUnfinished, IsFirstWithoutWay}, Listing.{edge_of, graph_of}}
use Rattle.olap_graph.specs.{Lookups.{edge_at, edges_from}, Marking.parents_of, Rows.{AreReached, row}}
use Rattle.olap_graph.specs.Tables.{drawn, IsMarked, LiesWithin, AreOut, AreBottoms, IsFirstWithout, HaveAll}
use Rattle.olap_graph.specs.declared.listing.Ends.{Ends}
use native.Mathlib.Decide.{ℕ_discrete}

-- what is read if there are no ends
abbrev pub nowhere : Ends
nowhere = record { child = record { 0 = 0 }; parent = record { 0 = 0 } }

-- what is read if there is no edge
abbrev pub no_edge : EdgeId
no_edge = record { 0 = 0 }

-- the edge at a place, read from the ends
pub edge_at-drawn : (ends : List Ends) (k : ℕ) → k < length ends
    → edge_at (drawn ends) k ≡ edge_of (get_or ends k nowhere)
edge_at-drawn ends k h = get_or-map edge_of ends k nowhere (record { child = 0; parent = 0 }) h

-- each place holds an edge of the graph
pub has_edge_at : (g : Graph) (k : ℕ) → k < length g.edges → HasEdge g (edge_at g k).child (edge_at g k).parent
has_edge_at g k h = Contains-get_or g.edges k (record { child = 0; parent = 0 }) h

-- and each edge has a place
pub place_of_edge : (g : Graph) (c d : ℕ) → HasEdge g c d
    → (k : ℕ) × (k < length g.edges) × (edge_at g k ≡ record { child = c; parent = d })
place_of_edge g c d h = (
  h.0,
  h.1,
  get_or_default g.edges h.0 (record { child = 0; parent = 0 })
      (record { child = c; parent = d }) h.1 ∙ h.2,
)

-- ---- the edges out of a category

-- one number more at the end
range_push : (n : ℕ) → range_with_len 0 (n + 1) ≡ range_with_len 0 n ++ n ∷ []
range_push n =
    sym (map-id (range_with_len 0 (n + 1))) ∙ map-range_with_len_more (λ k. k) 0 n n (omega arith)
    ∙ ap (λ ks. ks ++ n ∷ []) (map-id (range_with_len 0 n))

-- one number more, if it passes
filter_push : (p : ℕ → Bool) (n : ℕ)
    → filter p (range_with_len 0 (n + 1)) ≡ filter p (range_with_len 0 n) ++ filter p (n ∷ [])
filter_push p n = ap (filter p) (range_push n) ∙ filter-append p (range_with_len 0 n) (n ∷ [])

-- an edge out of the category
pub out_push : (ends : List Ends) (c k : ℕ) (out now : List EdgeId) (e : EdgeId) → k < length ends
    → (get_or ends k nowhere).child.0 ≡ c → e.0 ≡ k → now ≡ out ++ e ∷ []
    → map (λ e. e.0) out ≡ filter (λ j. (edge_at (drawn ends) j).child == c) (range_with_len 0 k)
    → map (λ e. e.0) now ≡ filter (λ j. (edge_at (drawn ends) j).child == c) (range_with_len 0 (k + 1))
out_push ends c k out now e h t q m i =
    let test : ℕ → Bool = λ j. (edge_at (drawn ends) j).child == c in
    let passes : test k ≡ true =
    (Decides-eqb (edge_at (drawn ends) k).child c).1 (ap (λ (x : Edge). x.child) (edge_at-drawn ends k h) ∙ t) in
    let last : filter test (k ∷ []) ≡ k ∷ [] = ap (λ b. cond b (k ∷ []) []) passes in
    ap (map (λ e. e.0)) m ∙ map_push (λ e. e.0) out e ∙ ap (λ ks. ks ++ e.0 ∷ []) i
    ∙ ap (λ j. filter test (range_with_len 0 k) ++ j ∷ []) q
    ∙ sym (filter_push test k ∙ ap (λ ks. filter test (range_with_len 0 k) ++ ks) last)

-- an edge out of another one
pub out_skip : (ends : List Ends) (c k : ℕ) (out : List EdgeId) → k < length ends
    → ((get_or ends k nowhere).child.0 ≡ c → ⊥)
    → map (λ e. e.0) out ≡ filter (λ j. (edge_at (drawn ends) j).child == c) (range_with_len 0 k)
    → map (λ e. e.0) out ≡ filter (λ j. (edge_at (drawn ends) j).child == c) (range_with_len 0 (k + 1))
out_skip ends c k out h t i =
    let test : ℕ → Bool = λ j. (edge_at (drawn ends) j).child == c in
    let fails : test k ≡ false =
    let child = ap (λ (x : Edge). x.child) (edge_at-drawn ends k h) in
    failed (test k) (λ b. t (sym child ∙ (Decides-eqb (edge_at (drawn ends) k).child c).0 b)) in
    let last : filter test (k ∷ []) ≡ [] = ap (λ b. cond b (k ∷ []) []) fails in
    i ∙ sym (filter_push test k ∙ ap (λ ks. filter test (range_with_len 0 k) ++ ks) last ∙ append_nothing
    (filter test (range_with_len 0 k)))
  where
    failed : (b : Bool) → (b ≡ true → ⊥) → b ≡ false
    failed true n = absurd (n refl)
    failed false n = refl

    append_nothing : (xs : List ℕ) → xs ++ [] ≡ xs
    append_nothing [] = refl
    append_nothing (x ∷ xs) = ap (λ ys. x ∷ ys) (append_nothing xs)

-- what is read from the table at z
pub out_read : (g : Graph) (n : ℕ) (out : List (List EdgeId)) (z r : ℕ) (row items : List EdgeId) → AreOut g n out
    → z < n → r ≡ z → row ≡ get_or out r row
    → items ≡ row → map (λ e. e.0) items ≡ edges_from g z
out_read g n out z r row items a h e q i =
    let l : z < length out = let k = a.count in omega arith in
    let is : get_or out z [] ≡ row = get_or_default out z [] row l ∙ ap (λ j. get_or out j row) (sym e) ∙ sym q in
    ap (map (λ e. e.0)) (i ∙ sym is) ∙ a.edges z h

-- an edge out of z is an edge, and z is its child
pub out_is : (g : Graph) (z : ℕ) (out : List EdgeId) (e : EdgeId) → map (λ e. e.0) out ≡ edges_from g z → Contains out e
    → (e.0 < length g.edges) × ((edge_at g e.0).child ≡ z)
out_is g z out e q c =
    let test : ℕ → Bool = λ j. (edge_at g j).child == z in
    let m : Contains (edges_from g z) e.0 =
    subst (λ ks. Contains ks e.0) q (Contains-map (λ (e : EdgeId). e.0) out e c) in
    let f = Contains-from_filter test (range_with_len 0 (length g.edges)) e.0 m in
    (Contains-from_range (length g.edges) e.0 f.0, (Decides-eqb (edge_at g e.0).child z).0 f.1)

-- each of them is the number of an edge
pub out_within : (g : Graph) (z : ℕ) (out : List EdgeId) → map (λ e. e.0) out ≡ edges_from g z
    → (k : ℕ) (d : EdgeId) → k < length out
    → (get_or out k d).0 < length g.edges
out_within g z out q k d h = (out_is g z out (get_or out k d) q (Contains-get_or out k d h)).0

-- the parents of the edges out of z are those that an edge from z leads to
pub parents_are : (g : Graph) (z : ℕ) (out : List EdgeId) → map (λ e. e.0) out ≡ edges_from g z → (y : ℕ)
    → Contains (parents_of g out) y ↔ HasEdge g z y
parents_are g z out q y = (from, to)
  where
    from : Contains (parents_of g out) y → HasEdge g z y
    from c =
        let t = Contains-from_map (λ (e : EdgeId). (edge_at g e.0).parent) out y c in
        let e = out_is g z out t.0 q t.1 in
        subst (λ a. HasEdge g a y) e.1 (subst (λ b. HasEdge g (edge_at g t.0.0).child b) t.2 (has_edge_at g t.0.0 e.0))

    to : HasEdge g z y → Contains (parents_of g out) y
    to h =
        let t = place_of_edge g z y h in
        let passes = (Decides-eqb (edge_at g t.0).child z).1 (ap (λ (e : Edge). e.child) t.2) in
        let m = Contains-filter (λ j. (edge_at g j).child == z) (range_with_len 0 (length g.edges)) t.0 passes
        (Contains-range (length g.edges) t.0 t.1) in
        let e = Contains-from_map (λ (e : EdgeId). e.0) out t.0 (subst (λ ks. Contains ks t.0) (sym q) m) in
        let parent : (edge_at g e.0.0).parent ≡ y =
        ap (λ k. (edge_at g k).parent) e.2 ∙ ap (λ (x : Edge). x.parent) t.2 in
        subst (λ b. Contains (parents_of g out) b) parent
        (Contains-map (λ (e : EdgeId). (edge_at g e.0).parent) out e.0 e.1)

-- the parent of the edge at a place of a list of edges
pub parent_at : (ends : List Ends) (out : List EdgeId) (k : ℕ) (d : EdgeId) → k < length out
    → (get_or out k d).0 < length ends
    → get_or (parents_of (drawn ends) out) k 0 ≡ (get_or ends (get_or out k d).0 nowhere).parent.0
parent_at ends out k d h l =
    get_or-map (λ (e : EdgeId). (edge_at (drawn ends) e.0).parent) out k d 0 h
    ∙ ap (λ (e : Edge). e.parent) (edge_at-drawn ends (get_or out k d).0 l)

-- the parent of an edge that is read from the list
pub parent_read : (ends : List Ends) (out : List EdgeId) (k r p : ℕ) → k < length out
    → All (λ e. e.0 < length ends) out → r ≡ (get_or out k no_edge).0
    → p ≡ (get_or ends r nowhere).parent.0 → get_or (parents_of (drawn ends) out) k 0 ≡ p
parent_read ends out k r p h w e q =
    parent_at ends out k no_edge h (w k no_edge h) ∙ ap (λ i. (get_or ends i nowhere).parent.0) (sym e) ∙ sym q

-- ---- the bottom categories

-- the edge's parent is no bottom category
pub bottoms_step : (ends : List Ends) (n k p : ℕ) (marks : List Bool) → length marks ≡ n
    → p ≡ (edge_at (drawn ends) k).parent
    → (c : ℕ) → c < n → IsMarked marks c ↔ ((c ≢ 0) × ((j : ℕ) → j < k → (edge_at (drawn ends) j).parent ≢ c))
    → IsMarked (set marks p false) c ↔ ((c ≢ 0) × ((j : ℕ) → j < k + 1 → (edge_at (drawn ends) j).parent ≢ c))
bottoms_step ends n k p marks l q c h i = elim (ℕ_discrete c p) [
  | yes e ↦ (
    λ m. absurd (let z : get_or
        (set marks p false) c false ≡ false = unset marks p c e in let t : true ≡ false = sym m ∙ z in cc),
    λ t. absurd (t.1 k (omega arith) (sym q ∙ sym e)),
  )
  | no n ↦
      let ne : c ≢ p = n in
      let same : get_or (set marks p false) c false ≡ get_or marks c false = rw get_or-set_other refl in (
        λ m. let t = i.0 (sym same ∙ m) in (
          t.0,
          λ j b. elim (ℕ_discrete j k) [
            | yes a ↦ λ w. ne (sym (q ∙ ap (λ x. (edge_at (drawn ends) x).parent) (sym a) ∙ w))
            | no a ↦ t.1 j (let na : j ≢ k = a in omega arith)
          ],
        ),
        λ t. same ∙ i.1 (t.0, λ j b. t.1 j (omega arith)),
      )
]
  where
    unset : (marks : List Bool) (p c : ℕ) → c ≡ p → get_or (set marks p false) c false ≡ false
    unset [] p c e = refl
    unset (b ∷ bs) zero c e = subst (λ z. get_or (false ∷ bs) z false ≡ false) (sym e) refl
    unset (b ∷ bs) (suc p) zero e = absurd (omega arith)
    unset (b ∷ bs) (suc p) (suc c) e = unset bs p c (omega arith)

-- no edge is left
pub bottoms_done : (g : Graph) (n : ℕ) (marks : List Bool) → length marks ≡ n
    → ((c : ℕ) → c < n → IsMarked marks c ↔ ((c ≢ 0) × ((k : ℕ) → k < length g.edges → (edge_at g k).parent ≢ c)))
    → AreBottoms g n marks
bottoms_done g n marks l i = record {
  count = l;
  exact = λ c h. (
    λ m. let t =
        (i c h).0 m in (t.0, λ d e. let p = place_of_edge g d c e in t.1 p.0 p.1 (ap (λ (x : Edge). x.parent) p.2)),
    λ t. (i c h).1 (
      t.0,
      λ k b q. t.1 (edge_at g k).child
          (subst (λ z. HasEdge g (edge_at g k).child z) q (has_edge_at g k b)),
    ),
  );
}

-- ---- what is reached

-- the ends of the edges are categories
pub lies_within : (names : List (List ℕ)) (kinds : List Bool) (ends : List Ends) (n : ℕ)
    → n ≡ category_count (graph_of names kinds ends)
    → ((c d : ℕ) → HasEdge (graph_of names kinds ends) c d → IsCategory (graph_of names kinds ends) c × IsCategory
    (graph_of names kinds ends) d) → LiesWithin (drawn ends) n
lies_within names kinds ends n q f c d h = let t = f c d h in (omega (arith, t.0), omega (arith, t.1))

-- the first set without `All` is that of the first category without a way
pub first_without_way : {W : ℕ} (names : List (List ℕ)) (kinds : List Bool) (ends : List Ends) (n : ℕ)
    (rows : List (CatSet W)) (c : CatId)
    → AreReached (drawn ends) n rows → n ≡ category_count (graph_of names kinds ends) → IsFirstWithout rows c
    → IsFirstWithoutWay (graph_of names kinds ends) c.0
first_without_way names kinds ends n rows c a q f =
    let k = a.count in
    let l : c.0 < n = let t = f.declared.1 in omega arith in
    record {
      declared = (λ e. let t = f.declared.0 in omega arith, omega arith);
      none = λ w. f.none ((a.each c.0 0 l).1 w);
      before = λ d i b. (a.each d 0 (omega arith)).0 (f.before d (let t = i.0 in positive d t) b);
    }
  where
    positive : (d : ℕ) → (d ≡ 0 → ⊥) → 0 < d
    positive zero n = absurd (n refl)
    positive (suc d) n = omega arith

-- where each set has `All`, each category reaches `All`
pub all_reach : {W : ℕ} (names : List (List ℕ)) (kinds : List Bool) (ends : List Ends) (n : ℕ) (rows : List (CatSet W))
    → AreReached (drawn ends) n rows → n ≡ category_count (graph_of names kinds ends) → HaveAll rows
    → (c : ℕ) → IsCategory (graph_of names kinds ends) c → CategoryReaches (graph_of names kinds ends) c 0
all_reach names kinds ends n rows a q m zero h = inl refl
all_reach names kinds ends n rows a q m (suc c) h =
    let k = a.count in
    (a.each (suc c) 0 (omega arith)).0 (m (suc c) (omega arith) (omega arith))

-- what is unfinished is finished once each category reaches `All`
pub hierarchy : (g : Graph) → IsUnfinished g → ((c : ℕ) → IsCategory g c → CategoryReaches g c 0) → IsHierarchy g
hierarchy g u w = record {
  names_differ = u.names_differ;
  kinds_known = u.kinds_known;
  names = u.names;
  categories = u.categories;
  edges_differ = u.edges_differ;
  no_loop = u.no_loop;
  none_from_all = u.none_from_all;
  reaches_all = w;
}
