-- The schema that the text of the made input stands for.
use Rattle.std.proofs.Common.{◌≡◌, ◌==◌, ◌||◌, ◌<◌, ◌↔◌, ℕ, zero, suc, Bool, true, false, not, [], ◌∷◌, refl, sym, subst, arith, codes, nat_lt, slice_index_or}
use Rattle.std.{proofs.lemmas.List.Sums.AllPass-from_list_all, specs.List.list_all, specs.Prelude.{IsTrue, replicate}}
use Rattle.olap_base.specs.Graph.{Edge, Graph, HasEdge, IsBottom, is_number}
use Rattle.olap_ast.specs.Formula.{Formula, Formula.Path, Formula.Equals, Formula.Implies, Formula.Iff, Formula.Or, Formula.Xor, Formula.One, Terms.End, Terms.More}
use Rattle.olap_ast.specs.Schema.{Constraint, Schema}
use Rattle.olap_generate.specs.Location.{city, country, province, region, state, store}

-- an edge between two categories
abbrev pub edge : ℕ → ℕ → Edge
edge c d = record { child = c; parent = d }

-- its graph
abbrev pub location_graph : Graph
location_graph = record {
  names = codes "Store" ∷ codes "City" ∷ codes "State" ∷ codes "Province" ∷ codes "Region" ∷ codes "Country" ∷ [];
  numbers = replicate 6 false;
  edges = edge store city ∷ edge city state ∷ edge city province ∷ edge city country ∷ edge state region
      ∷ edge state country ∷ edge province region ∷ edge region country ∷ edge country 0 ∷ [];
}

-- no category is one of numbers
pub no_numbers : (c : ℕ) → IsTrue (is_number location_graph c) → ⊥
no_numbers zero b = cc b
no_numbers (suc zero) b = cc b
no_numbers (suc (suc zero)) b = cc b
no_numbers (suc (suc (suc zero))) b = cc b
no_numbers (suc (suc (suc (suc zero)))) b = cc b
no_numbers (suc (suc (suc (suc (suc zero))))) b = cc b
no_numbers (suc (suc (suc (suc (suc (suc zero)))))) b = cc b
no_numbers (suc (suc (suc (suc (suc (suc (suc c))))))) b = cc b

-- a city of this name, and what lies in a country of this name
abbrev pub washington : Formula
washington = Equals city (codes "Washington")

-- x lies in the USA
abbrev pub in_usa : Formula
in_usa = Equals country (codes "USA")

-- x lies in Mexico
abbrev pub in_mexico : Formula
in_mexico = Equals country (codes "Mexico")

-- x lies in Canada
abbrev pub in_canada : Formula
in_canada = Equals country (codes "Canada")

-- a parent of the category
abbrev pub lies_in : ℕ → Formula
lies_in c = Path (c ∷ [])

-- a constraint of that root and formula
abbrev pub rule : ℕ → Formula → Constraint
rule c f = record { root = c; formula = f }

-- the schema of the made input
abbrev pub location_schema : Schema
location_schema = record {
  graph = location_graph;
  constraints =
      rule city (Iff (lies_in country) washington)
      ∷ rule city (One (More (lies_in state) (More (lies_in province) (More (lies_in country) End))))
      ∷ rule city (Implies washington in_usa)
      ∷ rule state (Or in_usa in_mexico)
      ∷ rule state (Iff (lies_in region) in_mexico)
      ∷ rule state (Xor (lies_in region) (lies_in country))
      ∷ rule province in_canada
      ∷ [];
}

-- ---- edges

-- what all edges pass, each passes
pub each_edge : (p : Edge → Bool) → list_all p location_graph.edges ≡ true
    → (c d : ℕ) → HasEdge location_graph c d → p (edge c d) ≡ true
each_edge p e c d h = subst (λ x. p x ≡ true) h.2 (AllPass-from_list_all p location_graph.edges e h.0 (edge c d) h.1)

-- the ranks of `All` and the others
abbrev pub rank : ℕ → ℕ
rank c = slice_index_or (1 ∷ 6 ∷ 5 ∷ 4 ∷ 4 ∷ 3 ∷ 2 ∷ []) c 0

-- each edge leads to a category of lower rank
pub location_falls : (c d : ℕ) → HasEdge location_graph c d → rank d < rank c
location_falls c d h = go (rank d) (rank c) (each_edge (λ e. nat_lt (rank e.parent) (rank e.child)) refl c d h)
  where
    go : (m n : ℕ) → nat_lt m n ≡ true → m < n
    go m n e = grind arith

-- a store's edge leads to a city
pub store_city : (d : ℕ) → HasEdge location_graph store d → d ≡ city
store_city d h = go (each_edge (λ e. not (e.child == store) || (e.parent == city)) refl store d h)
  where
    go : (d == city) ≡ true → d ≡ city
    go e = grind arith

-- no edge leads to a store
none_to_store : (c : ℕ) → HasEdge location_graph c store → ⊥
none_to_store c h = let e : not true ≡ true = each_edge (λ e. not (e.parent == store)) refl c store h in absurd (cc)

-- Store is the only bottom category
pub bottom_is_store : (c : ℕ) → IsBottom location_graph c ↔ (c ≡ store)
bottom_is_store c = (only c, λ e. subst (λ d. IsBottom location_graph d) (sym e) is_bottom)
  where
    is_bottom : IsBottom location_graph store
    is_bottom = (((λ e. omega arith), omega arith), none_to_store)

    only : (d : ℕ) → IsBottom location_graph d → d ≡ store
    only zero b = absurd (b.0.0 refl)
    only (suc zero) b = refl
    only (suc (suc zero)) b = absurd (b.1 store (0, omega arith, refl))
    only (suc (suc (suc zero))) b = absurd (b.1 city (1, omega arith, refl))
    only (suc (suc (suc (suc zero)))) b = absurd (b.1 city (2, omega arith, refl))
    only (suc (suc (suc (suc (suc zero))))) b = absurd (b.1 state (4, omega arith, refl))
    only (suc (suc (suc (suc (suc (suc zero)))))) b = absurd (b.1 city (3, omega arith, refl))
    only (suc (suc (suc (suc (suc (suc (suc d))))))) b = let l = b.0.1 in absurd (omega arith)
