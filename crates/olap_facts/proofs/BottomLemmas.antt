-- Whether a category is a bottom one.
use Rattle.std.proofs.Common.{◌≡◌, ◌≢◌, ◌<◌, ◌↔◌, ◌∷◌, [], Bool, true, false, not, ℕ, List, IsTrue, ap, refl, subst, inl, inr, arith}
use Rattle.std.{proofs.lemmas.Bool.Decides.nat_tests, specs.List.list_any}
use Rattle.std.specs.Prelude.{◌==◌, ◌&&◌, ◌||◌, Contains, nat_lt}
use Rattle.olap_base.{proofs.ListLemmas.{Contains-nil, contains_head}, specs.Deciding.{contains_cases, contains_cons}}
use Rattle.olap_base.specs.Graph.{Edge, Graph, HasEdge, IsBottom, category_count}
use Rattle.olap_facts.specs.FactText.{is_bottom}

-- the edge from d to c
abbrev edge : ℕ → ℕ → Edge
edge d c = record { child = d; parent = c }

-- some edge leads to the category
abbrev SomeEdge : ℕ → List Edge → Type 0
SomeEdge c es = (d : ℕ) × Contains es (record { child = d; parent = c })

-- some edge's parent is c exactly if some category has an edge to it
some_edge : (c : ℕ) (es : List Edge) → IsTrue (list_any (λ e. e.parent == c) es) ↔ SomeEdge c es
some_edge c [] = (λ t. absurd (cc), λ t. absurd (Contains-nil (edge t.0 c) t.1))
some_edge c (e ∷ es) =
    let r = some_edge c es in (to r.0 (e.parent == c) refl, λ t. from r.1 (e.parent == c) refl t.0 t.1)
  where
    same : e.parent ≡ c → e ≡ edge e.child c
    same q = λ j. record { child = e.child; parent = q j }

    to : (IsTrue (list_any (λ e. e.parent == c) es) → SomeEdge c es) → (b : Bool) → (e.parent == c) ≡ b
        → b || list_any (λ e. e.parent == c) es ≡ true → SomeEdge c (e ∷ es)
    to rest true q t = (
      e.child,
      subst (λ x. Contains (e ∷ es) x) (same (grind (arith, nat_tests)))
          (contains_head e es),
    )
    to rest false q t = let r = rest t in (r.0, contains_cons (edge r.0 c) es e r.1)

    from : (SomeEdge c es → IsTrue (list_any (λ e. e.parent == c) es)) → (b : Bool) → (e.parent == c) ≡ b
        → (d : ℕ) → Contains (e ∷ es) (edge d c) → b || list_any (λ e. e.parent == c) es ≡ true
    from rest true q d k = refl
    from rest false q d k = elim (contains_cases (edge d c) e es k) [
      | inl s ↦
          let p : e.parent ≡ c = ap (λ (x : Edge). x.parent) s in
          let z : (e.parent == c) ≡ true = grind (arith, nat_tests) in
          absurd (cc)
      | inr h ↦ rest (d, h)
    ]

-- all three are true
abbrev AllTrue : Bool → Bool → Bool → Type 0
AllTrue a b c = (a ≡ true) × (b ≡ true) × (c ≡ true)

-- the conjunction of three is true only if each is
all_true : (a b c : Bool) → a && b && c ≡ true → AllTrue a b c
all_true true true true e = (refl, refl, refl)
all_true true true false e = absurd (cc)
all_true true false c e = absurd (cc)
all_true false b c e = absurd (cc)

-- it is true if each is
from_all : (a b c : Bool) → a ≡ true → b ≡ true → c ≡ true → a && b && c ≡ true
from_all true true true e f h = refl
from_all true true false e f h = absurd (cc)
from_all true false c e f h = absurd (cc)
from_all false b c e f h = absurd (cc)

-- what a negation is true of is not true
not_true : (b : Bool) → not b ≡ true → b ≡ true → ⊥
not_true true e f = cc
not_true false e f = cc

-- a negation is true of what isn't true
from_not : (b : Bool) → (b ≡ true → ⊥) → not b ≡ true
from_not true n = absurd (n refl)
from_not false n = refl

-- the test for a category other than `All`
no_zero : (c : ℕ) → not (c == 0) ≡ true ↔ (c ≢ 0)
no_zero c = (
  λ t z. not_true (c == 0) t (grind (arith, nat_tests)),
  λ n. from_not (c == 0) (λ t. n (grind (arith, nat_tests))),
)

-- the test for a category of the graph
in_range : (c n : ℕ) → nat_lt c n ≡ true ↔ (c < n)
in_range c n = (λ t. grind (arith, nat_tests), λ h. grind (arith, nat_tests))

-- the test for a category that is no edge's parent
no_edge : (g : Graph) (c : ℕ) → not (list_any (λ e. e.parent == c) g.edges) ≡ true ↔ ((d : ℕ) → HasEdge g d c → ⊥)
no_edge g c = (
  λ t d k. not_true (list_any (λ e. e.parent == c) g.edges) t ((some_edge c g.edges).1 (d, k)),
  λ n. from_not (list_any (λ e. e.parent == c) g.edges) (λ t. let k = (some_edge c g.edges).0 t in n k.0 k.1),
)

-- the test tells
pub bottom-is : (g : Graph) (c : ℕ) → IsTrue (is_bottom g c) ↔ IsBottom g c
bottom-is g c =
    let zero = not (c == 0) in
    let below = nat_lt c (category_count g) in
    let listed = not (list_any (λ e. e.parent == c) g.edges) in (
      λ t.
          let a = all_true zero below listed t in
          (((no_zero c).0 a.0, (in_range c (category_count g)).0 a.1), (no_edge g c).0 a.2),
      λ b. from_all zero below listed ((no_zero c).1 b.0.0) ((in_range c (category_count g)).1 b.0.1)
          ((no_edge g c).1 b.1),
    )
