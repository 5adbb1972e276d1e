-- Printed lines of categories and edges are read as the graph.
use Rattle.std.proofs.Common.{◌≡◌, ◌≢◌, ◌==◌, ◌<◌, ◌≤◌, ◌+◌, ℕ, zero, suc, Bool, true, false, List, [], ◌∷◌, ◌++◌, Option, Some, None, length, get_or, refl, arith, ap, sym, ◌∙◌, codes, nat_lt, nat_le, not, ◌&&◌, inl, inr}
use Rattle.std.proofs.lemmas.{Bool.{eqb-true, false_from_ne_true}, List.Elements.Contains-append_right}
use Rattle.std.{proofs.lemmas.Slice.Eq.bytes_eq-Decides, specs.Bool.Decides, specs.List.position_from}
use Rattle.std.specs.{Prelude.{AllPairs, Contains, Ok}, Str.bytes_eq}
use Rattle.olap_base.{proofs.ListLemmas.get_or_inside, specs.Deciding.contains_cases, specs.Graph.{Edge, Graph}}
use Rattle.olap_base.specs.Limits.{most_categories, most_edges, most_text_bytes}
use Rattle.olap_graph.proofs.PlaceLemmas.{found, joins-Decides}
use Rattle.olap_graph.specs.Lookups.{category_named, edge_between, joins, name_of_category}
use Rattle.olap_ast.specs.{Schema.Schema, Valid.IsValidSchema}
use Rattle.olap_schema_text.proofs.{BackLengths.AreShort, PrintNames.named}
use Rattle.olap_schema_text.specs.Judging.{Above, category_read, edge_read}
use Rattle.olap_grammar.specs.Cutting.{has_numbers}
use Rattle.olap_grammar.specs.declared.tokens.Version.TheVariants as version

-- these categories and edges stand above
abbrev pub growing : List (List ℕ) → List Bool → List Edge → List ℕ → Above
growing names numbers edges lines = record {
  version = Some version.Two;
  graph = record { names = names; numbers = numbers; edges = edges };
  category_lines = lines;
  constraints = [];
  nodes = 0;
}

-- ---- lists

-- the item after some
at_end : {A : Type 0} (xs : List A) (y : A) (ys : List A) (d : A) → get_or (xs ++ y ∷ ys) (length xs) d ≡ y
at_end [] y ys d = refl
at_end (x ∷ xs) y ys d = at_end xs y ys d

-- an item of the first list
at_left : {A : Type 0} (xs ys : List A) (k : ℕ) (d : A) → k < length xs → get_or (xs ++ ys) k d ≡ get_or xs k d
at_left [] ys k d l = absurd (omega arith)
at_left (x ∷ xs) ys zero d l = refl
at_left (x ∷ xs) ys (suc k) d l = at_left xs ys k d (omega arith)

-- two lists are as long as both
pub lengths : {A : Type 0} (xs ys : List A) → length (xs ++ ys) ≡ length xs + length ys
lengths [] ys = omega arith
lengths (x ∷ xs) ys = let e = lengths xs ys in omega arith

-- where all differ, none stands before itself
not_before : {A : Type 0} (xs : List A) (y : A) (ys : List A) → AllPairs ◌≢◌ (xs ++ y ∷ ys) → Contains xs y → ⊥
not_before xs y ys a c =
    let l = lengths xs (y ∷ ys) in
    a c.0 (length xs) y c.1 (omega arith) (at_left xs (y ∷ ys) c.0 y c.1 ∙ c.2 ∙ sym (at_end xs y ys y))

-- an item between others is in the list
pub stands : {A : Type 0} (xs : List A) (y : A) (ys : List A) → Contains (xs ++ y ∷ ys) y
stands xs y ys = Contains-append_right xs (y ∷ ys) y (0, omega arith, refl)

-- what passes nowhere in the list is not placed
not_placed : {X : Type 0} (t : X → Bool) (P : X → Type 0) (tells : (x : X) → Decides (t x) (P x)) (xs : List X)
    → ((x : X) → Contains xs x → P x → ⊥) → position_from t 0 xs ≡ None
not_placed t P tells [] none = refl
not_placed t P tells (y ∷ ys) none = go (position_from t 0 (y ∷ ys)) refl
  where
    go : (o : Option ℕ) → position_from t 0 (y ∷ ys) ≡ o → o ≡ None
    go None e = refl
    go (Some i) e =
        let r = found t P tells (y ∷ ys) 0 i e in
        absurd (none (get_or (y ∷ ys) r.0 y) (r.0, r.2, get_or_inside (y ∷ ys) r.0 (get_or (y ∷ ys) r.0 y) y r.2)
        (r.3 y))

-- ---- categories

-- a name that stands later stands for no category yet
new_name : (done : List (List ℕ)) (name : List ℕ) (rest : List (List ℕ)) → AllPairs ◌≢◌ (done ++ name ∷ rest)
    → name ≢ codes "All" → (numbers : List Bool) (edges : List Edge) →
    category_named (record { names = done; numbers = numbers; edges = edges }) name ≡ None
new_name done name rest a n numbers edges =
    not_placed (bytes_eq name) (λ x. name ≡ x) (bytes_eq-Decides name) (codes "All" ∷ done)
    (λ x c e. elim (contains_cases x (codes "All") done c) [
      | inl q ↦ n (e ∙ sym q)
      | inr d ↦ not_before done name rest a (rw e d)
    ])

-- one category more is read
pub add_category : (s : Schema) → IsValidSchema s
    → (n : ℕ) (done : List (List ℕ)) (name : List ℕ) (rest : List (List ℕ)) (kinds : List Bool) (number : Bool)
    (lines : List ℕ) → done ++ name ∷ rest ≡ s.graph.names
    → category_read (growing done kinds [] lines) n version.Two name number
    ≡ Ok (growing (done ++ name ∷ []) (kinds ++ number ∷ []) [] (lines ++ n ∷ []))
add_category s v n done name rest kinds number lines e =
    let there : Contains s.graph.names name = rw e at (stands done name rest) in
    let l = v.names_fit name there in
    let short : nat_lt most_text_bytes (length name) ≡ false = grind (arith) in
    let differ : AllPairs ◌≢◌ (done ++ name ∷ rest) = rw (← e) at v.hierarchy.names_differ in
    let sizes = lengths done (name ∷ rest) in
    let few : nat_le most_categories (length done + 1) ≡ false =
    room (length done) (length rest) (length s.graph.names) v.categories_fit (sym (ap length e) ∙ sizes) in
    rw (every_kind number, short, new_name done name rest differ (v.hierarchy.names name there).1 kinds [], few) refl
  where
    every_kind : (b : Bool) → b && not (has_numbers version.Two) ≡ false
    every_kind true = refl
    every_kind false = refl

    room : (a b n : ℕ) → n + 1 ≤ most_categories → n ≡ a + suc b → nat_le most_categories (a + 1) ≡ false
    room a b n l q = grind arith

-- ---- edges

-- one edge more is read
pub add_edge : (s : Schema) → IsValidSchema s → AreShort s.graph
    → (done : List Edge) (edge : Edge) (rest : List Edge) (lines : List ℕ) → done ++ edge ∷ rest ≡ s.graph.edges →
    edge_read (growing s.graph.names s.graph.numbers done lines) (name_of_category s.graph edge.child)
    (name_of_category s.graph edge.parent) ≡ Ok (growing s.graph.names s.graph.numbers (done ++ edge ∷ []) lines)
add_edge s v short done edge rest lines e =
    let before : Graph = record { names = s.graph.names; numbers = s.graph.numbers; edges = done } in
    let there : Contains s.graph.edges edge = rw e at (stands done edge rest) in
    let ends = v.hierarchy.categories edge.child edge.parent there in
    let lc = short edge.child ends.0 in
    let lp = short edge.parent ends.1 in
    let sc : nat_lt most_text_bytes (length (name_of_category s.graph edge.child)) ≡ false = grind (arith) in
    let sp : nat_lt most_text_bytes (length (name_of_category s.graph edge.parent)) ≡ false = grind (arith) in
    let nc : category_named before (name_of_category s.graph edge.child) ≡ Some edge.child =
    named s.graph v.hierarchy edge.child ends.0 in
    let np : category_named before (name_of_category s.graph edge.parent) ≡ Some edge.parent =
    named s.graph v.hierarchy edge.parent ends.1 in
    let loop = false_from_ne_true (edge.child == edge.parent)
    (λ q. v.hierarchy.no_loop edge.child edge.parent there (eqb-true edge.child edge.parent q)) in
    let all = false_from_ne_true (edge.child == 0) (λ q. from_all edge there (eqb-true edge.child 0 q)) in
    let differ : AllPairs ◌≢◌ (done ++ edge ∷ rest) = rw (← e) at v.hierarchy.edges_differ in
    let new : edge_between before edge.child edge.parent ≡ None =
    not_placed (joins edge.child edge.parent) (λ x. x ≡ record { child = edge.child; parent = edge.parent })
    (joins-Decides edge.child edge.parent) done
    (λ x c q. not_before done edge rest differ (rw q at c)) in
    let sizes = lengths done (edge ∷ rest) in
    let few : nat_le most_edges (length done) ≡ false =
    room (length done) (length rest) (length s.graph.edges) v.edges_fit (sym (ap length e) ∙ sizes) in
    rw (sc, sp, nc, np, loop, all, new, few) refl
  where
    room : (a b n : ℕ) → n ≤ most_edges → n ≡ a + suc b → nat_le most_edges a ≡ false
    room a b n l q = grind arith

    from_all : (x : Edge) → Contains s.graph.edges x → x.child ≡ 0 → ⊥
    from_all x c q = v.hierarchy.none_from_all x.parent (rw q at c)
