-- A graph in the making keeps its promises when a category or an edge is added.
use Rattle.std.proofs.Common.{◌≡◌, ◌≢◌, ℕ, ◌<◌, ◌≤◌, List, [], ◌∷◌, ◌++◌, Bool, Vec, Global, length, drop, map, Option, None, Some, false, is_some, refl, sym, ap, ◌∙◌, subst, inl, inr, arith}
use Rattle.std.proofs.lemmas.{Bool.Decides.Decides-eqb, List.{length-map, length_push, map_push}}
use Rattle.std.proofs.lemmas.List.{Elements.{Contains-get_or, Contains-push_cases}, Quantifiers.all_pairs_push}
use Rattle.std.specs.{Option.option_map, Prelude.{Contains, AllPairs, codes, ◌==◌}}
use Rattle.olap_base.{proofs.ListLemmas.contains_head, specs.Deciding.contains_cons}
use Rattle.olap_base.specs.Graph.{Edge, Graph, HasEdge, IsCategory, IsCategoryName, category_count}
use Rattle.olap_base.specs.Limits.{most_categories, most_edges, most_text_bytes}
use Rattle.olap_graph.proofs.PlaceLemmas.{missing, joins-Decides, place_of-none}
use Rattle.olap_graph.specs.{Building.{IsWithinLimits, IsUnfinished, with_kind, with_edge}, Inside.{IsBuilt, built}}
use Rattle.olap_graph.specs.{Listing.{IsHeaded, edge_of, graph_of}, Lookups.{category_named, edge_between, joins}}
use Rattle.olap_graph.specs.declared.{building.GraphBuilder.TheInside.Inside, listing.Ends.Ends}

-- a new element keeps a list without repeats
differ_push : {X : Type 0} (xs : List X) (x : X) → AllPairs ◌≢◌ xs → (Contains xs x → ⊥) → AllPairs ◌≢◌ (xs ++ x ∷ [])
differ_push xs x a new =
    all_pairs_push ◌≢◌ xs x a (λ k d h e. new (subst (λ y. Contains xs y) e (Contains-get_or xs k d h)))

-- ---- one more category

-- a graph within its limits that has room for a category is within them afterwards
pub limits-with_category : (number : Bool) (g : Graph) (name : List ℕ) → IsWithinLimits g
    → category_count g < most_categories → length name ≤ most_text_bytes → IsWithinLimits (with_kind number g name)
limits-with_category number g name w few short = record {
  few = omega (arith, length_push g.names name);
  few_edges = w.few_edges;
  short_names =
      λ n c. elim (Contains-push_cases g.names name n c) [
        | inl d ↦ w.short_names n d
        | inr e ↦ subst (λ x. length x ≤ most_text_bytes) e short
      ];
}

-- a new name, spelled as names are, keeps the promises
pub unfinished-with_category : (number : Bool) (g : Graph) (name : List ℕ) → IsUnfinished g → IsCategoryName name
    → category_named g name ≡ None → IsUnfinished (with_kind number g name)
unfinished-with_category number g name u n none = record {
  kinds_known = let a = length_push g.numbers number in let b = length_push g.names name in
      let c = u.kinds_known in omega arith;
  names_differ =
      differ_push g.names name u.names_differ
      (λ c. place_of-none name (codes "All" ∷ g.names) none (contains_cons name g.names (codes "All") c));
  names = λ x c. elim (Contains-push_cases g.names name x c) [
    | inl d ↦ u.names x d
    | inr e ↦ subst (λ y. IsCategoryName y × (y ≢ codes "All")) e (
      n,
      λ q. place_of-none name (codes "All" ∷ g.names) none
          (subst (λ y. Contains (y ∷ g.names) name) q (contains_head name g.names)),
    )
  ];
  categories = λ c d h. let t = u.categories c d h in let l = length_push g.names name in
      (omega (arith, t.0), omega (arith, t.1));
  edges_differ = u.edges_differ;
  no_loop = u.no_loop;
  none_from_all = u.none_from_all;
}

-- ---- one more edge

-- a graph within its limits that has room for an edge is within them afterwards
pub limits-with_edge : (g : Graph) (c d : ℕ) → IsWithinLimits g → length g.edges < most_edges
    → IsWithinLimits (with_edge g c d)
limits-with_edge g c d w few = record {
  few = w.few;
  few_edges = omega (arith, length_push g.edges (record { child = c; parent = d }));
  short_names = w.short_names;
}

-- a new edge between two categories, not from `All`, keeps the promises
pub unfinished-with_edge : (g : Graph) (c d : ℕ) → IsUnfinished g → IsCategory g c → IsCategory g d → c ≢ d → c ≢ 0
    → edge_between g c d ≡ None → IsUnfinished (with_edge g c d)
unfinished-with_edge g c d u hc hd loop from_all none = record {
  kinds_known = u.kinds_known;
  names_differ = u.names_differ;
  names = u.names;
  categories = λ a b h. each (λ x y. IsCategory g x × IsCategory g y) a b h u.categories (hc, hd);
  edges_differ =
      differ_push g.edges new u.edges_differ
      (λ h. missing (joins c d) (λ x. x ≡ new) (joins-Decides c d) g.edges 0 none new h refl);
  no_loop = λ a b h. each (λ x y. x ≢ y) a b h u.no_loop loop;
  none_from_all =
      λ b h. each (λ x y. x ≢ 0) 0 b h (λ x y k e. u.none_from_all y (subst (λ z. HasEdge g z y) e k)) from_all refl;
}
  where
    new : Edge
    new = record { child = c; parent = d }

    -- what holds of each edge and of the new one holds of each edge now
    each : (P : ℕ → ℕ → Type 0) (a b : ℕ) → HasEdge (with_edge g c d) a b → ((x y : ℕ) → HasEdge g x y → P x y)
        → P c d → P a b
    each P a b h old p = elim (Contains-push_cases g.edges new (record { child = a; parent = b }) h) [
      | inl k ↦ old a b k
      | inr e ↦ subst (λ (x : Edge). P x.child x.parent) e p
    ]

-- ---- the lists afterwards

-- the names with one more, where `All` is the first
pub drop-headed : (names : List (List ℕ)) (name : List ℕ) → IsHeaded names
    → drop 1 (names ++ name ∷ []) ≡ drop 1 names ++ name ∷ []
drop-headed [] name h = absurd (cc)
drop-headed (x ∷ names) name h = refl

-- `All` stays the first of the names
pub headed_push : (names : List (List ℕ)) (name : List ℕ) → IsHeaded names → IsHeaded (names ++ name ∷ [])
headed_push names name h = ap (λ ns. ns ++ name ∷ []) h ∙ ap (λ ns. codes "All" ∷ ns) (sym (drop-headed names name h))

-- the lists with one name more are the graph with one category more
pub graph_of-category : (number : Bool) (names : List (List ℕ)) (kinds : List Bool) (ends : List Ends)
    (name : List ℕ) → IsHeaded names
    → graph_of (names ++ name ∷ []) (kinds ++ number ∷ []) ends ≡ with_kind number (graph_of names kinds ends) name
graph_of-category number names kinds ends name h =
    ap (λ ns. let g : Graph = record { names = ns; numbers = kinds ++ number ∷ []; edges = map edge_of ends } in g)
    (drop-headed names name h)

-- the list with one pair of ends more is the graph with one edge more
pub graph_of-edge : (names : List (List ℕ)) (kinds : List Bool) (ends : List Ends) (e : Ends)
    → graph_of names kinds (ends ++ e ∷ []) ≡ with_edge (graph_of names kinds ends) e.child.0 e.parent.0
graph_of-edge names kinds ends e =
    ap (λ es. let g : Graph = record { names = drop 1 names; numbers = kinds; edges = es } in g)
    (map_push edge_of ends e)

-- there are as many names as categories
pub headed_length : (names : List (List ℕ)) (kinds : List Bool) (ends : List Ends) → IsHeaded names
    → length names ≡ category_count (graph_of names kinds ends)
headed_length names kinds ends h = let l = ap length h in omega (arith, l)

-- where the look-up gave nothing, there is nothing
pub nothing : {X Y : Type 0} (f : X → Y) (r : Option X) (o : Option Y) → option_map f r ≡ o → is_some r ≡ false
    → o ≡ None
nothing f None o e h = sym e
nothing f (Some x) o e h = absurd (cc)

-- a test for equality that failed
pub differ : (a b : ℕ) → false ≡ a == b → a ≢ b
differ a b h e = let t = (Decides-eqb a b).1 e in cc

-- ---- a builder

-- a builder's lists with one more
module _ {a : Inside} (t : IsBuilt a) {v : Graph} (is : built a ≡ v) where
  -- there are as many names as categories
  pub built_length : length a.names.items ≡ category_count v
  built_length = headed_length a.names.items a.numbers.items a.edges.items t.headed ∙ ap category_count is

  -- and as many pairs of ends as edges
  pub built_edges : {n : ℕ} → n ≡ length a.edges.items → n ≡ length v.edges
  built_edges e = e ∙ sym (length-map a.edges.items edge_of) ∙ ap (λ (g : Graph). length g.edges) is

  -- one name more is one category more
  pub built_category : (number : Bool) (name : List ℕ) {names : List (List ℕ)} {kinds : List Bool}
      → names ≡ a.names.items ++ name ∷ [] → kinds ≡ a.numbers.items ++ number ∷ []
      → graph_of names kinds a.edges.items ≡ with_kind number v name
  built_category number name n k =
      rw (n, k, ← is) (graph_of-category number a.names.items a.numbers.items a.edges.items name t.headed)

  -- the builder keeps its promises
  pub built_kind : (number : Bool) (name : List ℕ) (names : Vec (List ℕ) Global) (kinds : Vec Bool Global)
      → names.items ≡ a.names.items ++ name ∷ [] → kinds.items ≡ a.numbers.items ++ number ∷ []
      → category_count v < most_categories → IsCategoryName name → length name ≤ most_text_bytes
      → category_named v name ≡ None → IsBuilt (record a { names = names; numbers = kinds })
  built_kind number name names kinds n k few spelled short none =
      let grown = built_category number name n k in
      record {
        headed = rw n (headed_push a.names.items name t.headed);
        limits = rw grown (limits-with_category number v name (rw is at t.limits) few short);
        unfinished = rw grown (unfinished-with_category number v name (rw is at t.unfinished) spelled none);
      }

  -- one pair of ends more is one edge more
  pub built_edge : (e : Ends) {ends : List Ends} → ends ≡ a.edges.items ++ e ∷ []
      → graph_of a.names.items a.numbers.items ends ≡ with_edge v e.child.0 e.parent.0
  built_edge e q = rw (q, ← is) (graph_of-edge a.names.items a.numbers.items a.edges.items e)

  -- the builder keeps its promises
  pub built_ends : (e : Ends) (ends : Vec Ends Global) → ends.items ≡ a.edges.items ++ e ∷ []
      → length v.edges < most_edges → IsCategory v e.child.0 → IsCategory v e.parent.0 → false ≡ e.child.0 == e.parent.0
      → false ≡ e.child.0 == 0 → edge_between v e.child.0 e.parent.0 ≡ None → IsBuilt (record a { edges = ends })
  built_ends e ends q few child parent loop from_all none =
      let grown = built_edge e q in
      record {
        headed = t.headed;
        limits = rw grown (limits-with_edge v e.child.0 e.parent.0 (rw is at t.limits) few);
        unfinished = rw grown (unfinished-with_edge v e.child.0 e.parent.0 (rw is at t.unfinished) child parent
            (differ e.child.0 e.parent.0 loop) (differ e.child.0 0 from_all) none);
      }
