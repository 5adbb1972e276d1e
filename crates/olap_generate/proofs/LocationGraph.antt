-- The graph of the made input is a hierarchy.
--     store_is ..             each category's name is a name
use Rattle.std.proofs.Common.{◌≡◌, ◌==◌, ◌&&◌, ◌+◌, ◌*◌, ◌<◌, ◌≤◌, ◌++◌, ℕ, zero, suc, Bool, true, not, List, [], ◌∷◌, All, Contains, map, codes, refl, ap, subst, arith, nat_le, nat_lt, slice_index_or, inl, inr, lit≤}
use Rattle.std.{proofs.lemmas.List.Elements.{All-cons, All-nil}, specs.List.{list_all, list_any}}
use Rattle.std.specs.Prelude.{◌≢◌, slice_index}
use Rattle.olap_base.proofs.ListLemmas.{AllPairs-from_Distinct, Contains-map, Distinct, first_true, list_any_is, second_true}
use Rattle.olap_base.specs.Chains.{IsChain}
use Rattle.olap_base.specs.Graph.{CategoryReaches, Edge, HasEdge, IsCategoryName, IsHierarchy, IsLetterOrDigit, reserved}
use Rattle.olap_base.specs.Reaching.{is_category_name, is_category_name_is}
use Rattle.olap_generate.proofs.Location.{each_edge, location_falls, location_graph, rank}

-- ---- names

-- the reserved words begin with small letters
not_reserved : (b : ℕ) (bs : List ℕ) → b ≤ 90 → Contains reserved (b ∷ bs) → ⊥
not_reserved b bs h (zero, l, e) = let q : ◌≡◌ {A = ℕ} 116 b = ap (λ t. slice_index t 0) e in omega arith
not_reserved b bs h (suc zero, l, e) = let q : ◌≡◌ {A = ℕ} 102 b = ap (λ t. slice_index t 0) e in omega arith
not_reserved b bs h (suc (suc zero), l, e) = let q : ◌≡◌ {A = ℕ} 111 b = ap (λ t. slice_index t 0) e in omega arith
not_reserved b bs h (suc (suc (suc zero)), l, e) = let q : ◌≡◌ {A = ℕ} 97 b = ap (λ t. slice_index t 0) e in omega arith
not_reserved b bs h (suc (suc (suc (suc k))), l, e) = absurd (omega arith)

-- a small letter
abbrev is_small : ℕ → Bool
is_small b = nat_le 97 b && nat_le b 122

-- what the test takes is a letter or a digit
small_is : (b : ℕ) → is_small b ≡ true → IsLetterOrDigit b
small_is b e = grind arith

-- so it is of several bytes
all_small : (bs : List ℕ) → list_all is_small bs ≡ true → All IsLetterOrDigit bs
all_small [] e = All-nil IsLetterOrDigit
all_small (b ∷ bs) e =
    All-cons IsLetterOrDigit b bs (small_is b (first_true (is_small b) (list_all is_small bs) e))
    (all_small bs (second_true (is_small b) (list_all is_small bs) e))

-- a capital letter and small ones are a name
named : (b : ℕ) (bs : List ℕ) → 65 ≤ b → b ≤ 90 → list_all is_small bs ≡ true → is_category_name (b ∷ bs) ≡ true
named b bs l h e = (is_category_name_is (b ∷ bs)).1 (inl (l, h), all_small bs e, not_reserved b bs h)

-- `Store` is a category name
pub store_is : is_category_name (codes "Store") ≡ true
store_is = named 83 (codes "tore") (lit≤ tt) (lit≤ tt) refl

-- `City` is a category name
pub city_is : is_category_name (codes "City") ≡ true
city_is = named 67 (codes "ity") (lit≤ tt) (lit≤ tt) refl

-- `State` is one
pub state_is : is_category_name (codes "State") ≡ true
state_is = named 83 (codes "tate") (lit≤ tt) (lit≤ tt) refl

-- `Province` is one
pub province_is : is_category_name (codes "Province") ≡ true
province_is = named 80 (codes "rovince") (lit≤ tt) (lit≤ tt) refl

-- `Region` is one
pub region_is : is_category_name (codes "Region") ≡ true
region_is = named 82 (codes "egion") (lit≤ tt) (lit≤ tt) refl

-- `Country` is one
pub country_is : is_category_name (codes "Country") ≡ true
country_is = named 67 (codes "ountry") (lit≤ tt) (lit≤ tt) refl

-- `All` is one
pub all_is : is_category_name (codes "All") ≡ true
all_is = named 65 (codes "ll") (lit≤ tt) (lit≤ tt) refl

-- a category name other than `All`
abbrev IsDeclaredName : List ℕ → Type 0
IsDeclaredName name = IsCategoryName name × (name ≢ codes "All")

-- a category name that doesn't begin with an A is a declared one's
declared : (name : List ℕ) → is_category_name name ≡ true → slice_index name 0 ≢ 65 → IsDeclaredName name
declared name e n = ((is_category_name_is name).0 e, λ q. n (ap (λ t. slice_index t 0) q))

-- each name of the graph is one
declared_at : (k : ℕ) (d : List ℕ) → k < 6 → IsDeclaredName (slice_index_or location_graph.names k d)
declared_at zero d l = declared (codes "Store") store_is (λ q. omega arith)
declared_at (suc zero) d l = declared (codes "City") city_is (λ q. omega arith)
declared_at (suc (suc zero)) d l = declared (codes "State") state_is (λ q. omega arith)
declared_at (suc (suc (suc zero))) d l = declared (codes "Province") province_is (λ q. omega arith)
declared_at (suc (suc (suc (suc zero)))) d l = declared (codes "Region") region_is (λ q. omega arith)
declared_at (suc (suc (suc (suc (suc zero))))) d l = declared (codes "Country") country_is (λ q. omega arith)
declared_at (suc (suc (suc (suc (suc (suc k)))))) d l = absurd (omega arith)

-- ---- no repeats

-- no number stands twice
abbrev are_distinct : List ℕ → Bool
are_distinct [] = true
are_distinct (x ∷ xs) = not (list_any (λ k. k == x) xs) && are_distinct xs

-- a number that a test doesn't find stands nowhere
not_there : (n : ℕ) (xs : List ℕ) → not (list_any (λ k. k == n) xs) ≡ true → Contains xs n → ⊥
not_there n xs e c =
    let same : (n == n) ≡ true = grind arith in
    let there : list_any (λ k. k == n) xs ≡ true = (list_any_is (λ k. k == n) xs).1 (n, c, same) in
    let no : not true ≡ true = rw there at e in
    absurd (cc)

-- what the test says
distinct_numbers : (xs : List ℕ) → are_distinct xs ≡ true → Distinct xs
distinct_numbers [] e = tt
distinct_numbers (x ∷ xs) e =
    let here = not (list_any (λ k. k == x) xs) in
    (not_there x xs (first_true here (are_distinct xs) e), distinct_numbers xs (second_true here (are_distinct xs) e))

-- what gives different numbers differs
distinct_by : {A : Type 0} (key : A → ℕ) (xs : List A) → are_distinct (map key xs) ≡ true → Distinct xs
distinct_by {A} key xs e = go xs (distinct_numbers (map key xs) e)
  where
    go : (ys : List A) → Distinct (map key ys) → Distinct ys
    go [] d = tt
    go (y ∷ ys) d = ((λ c. d.0 (Contains-map key ys y c)), go ys d.1)

-- the names differ in their second and third bytes
names_distinct : Distinct location_graph.names
names_distinct = distinct_by (λ t. slice_index t 1 + slice_index t 2) location_graph.names refl

-- no edge stands twice
edges_distinct : Distinct location_graph.edges
edges_distinct = distinct_by (λ (e : Edge). 10 * e.child + e.parent) location_graph.edges refl

-- ---- the ways to `All`

-- a way by these categories
way : (c : ℕ) (between : List ℕ) → IsChain (HasEdge location_graph) (c ∷ (between ++ 0 ∷ []))
    → CategoryReaches location_graph c 0
way c between k = inr (record { between = between; chain = k })

-- each category reaches `All`
ways : (c : ℕ) → c < 7 → CategoryReaches location_graph c 0
ways zero l = inl refl
ways (suc zero) l = way 1 (2 ∷ 6 ∷ []) ((0, omega arith, refl), ((3, omega arith, refl), ((8, omega arith, refl), tt)))
ways (suc (suc zero)) l = way 2 (6 ∷ []) ((3, omega arith, refl), ((8, omega arith, refl), tt))
ways (suc (suc (suc zero))) l = way 3 (6 ∷ []) ((5, omega arith, refl), ((8, omega arith, refl), tt))
ways (suc (suc (suc (suc zero)))) l =
    way 4 (5 ∷ 6 ∷ []) ((6, omega arith, refl), ((7, omega arith, refl), ((8, omega arith, refl), tt)))
ways (suc (suc (suc (suc (suc zero))))) l = way 5 (6 ∷ []) ((7, omega arith, refl), ((8, omega arith, refl), tt))
ways (suc (suc (suc (suc (suc (suc zero)))))) l = way 6 [] ((8, omega arith, refl), tt)
ways (suc (suc (suc (suc (suc (suc (suc c))))))) l = absurd (omega arith)

-- ---- the graph

-- both ends are categories, and the lower one isn't `All`
inside : (c d : ℕ) → HasEdge location_graph c d → ((c < 7) × (d < 7)) × (c ≢ 0)
inside c d h =
    go (each_edge (λ e. nat_lt e.child 7) refl c d h) (each_edge (λ e. nat_lt e.parent 7) refl c d h)
    (each_edge (λ e. not (e.child == 0)) refl c d h)
  where
    go : nat_lt c 7 ≡ true → nat_lt d 7 ≡ true → not (c == 0) ≡ true → ((c < 7) × (d < 7)) × (c ≢ 0)
    go p q r = ((grind arith, grind arith), grind arith)

-- the graph is a hierarchy
pub location_is_hierarchy : IsHierarchy location_graph
location_is_hierarchy = record {
  names_differ = AllPairs-from_Distinct location_graph.names names_distinct;
  kinds_known = refl;
  names = λ name h. subst IsDeclaredName h.2 (declared_at h.0 name h.1);
  categories = λ c d h. (inside c d h).0;
  edges_differ = AllPairs-from_Distinct location_graph.edges edges_distinct;
  no_loop = λ c d h q. let lower = location_falls c d h in let level = ap rank q in omega arith;
  none_from_all = λ d h. (inside 0 d h).1 refl;
  reaches_all = ways;
}
