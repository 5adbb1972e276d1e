-- Different categories have different names.
use Rattle.std.proofs.{Common.{◌≡◌, ◌<◌, inl, inr, ℕ, zero, suc, [], get_or, arith, sym}, lemmas.Bool.cases_order}
use Rattle.std.proofs.lemmas.List.Elements.{Contains-get_or}
use Rattle.olap_base.specs.Graph.{Graph, IsCategory, IsHierarchy}
use Rattle.olap_graph.specs.Lookups.{name_of_category}

-- two categories have different names
pub names_apart : (g : Graph) → IsHierarchy g → (c d : ℕ) → c < d → IsCategory g d
    → name_of_category g c ≡ name_of_category g d → ⊥
names_apart g h zero zero b l e = absurd (omega arith)
names_apart g h zero (suc d) b l e =
    (h.names (get_or g.names d []) (Contains-get_or g.names d [] (omega arith))).1 (sym e)
names_apart g h (suc c) zero b l e = absurd (omega arith)
names_apart g h (suc c) (suc d) b l e = h.names_differ c d [] (omega arith) (omega arith) e

-- categories of one name are one
pub names_differ : (g : Graph) → IsHierarchy g → (c d : ℕ) → IsCategory g c → IsCategory g d
    → name_of_category g c ≡ name_of_category g d → c ≡ d
names_differ g h c d l m e = elim (cases_order c d) [
  | inl same ↦ same
  | inr o ↦ elim o [
    | inl b ↦ absurd (names_apart g h c d b m e)
    | inr b ↦ absurd (names_apart g h d c b l (sym e))
  ]
]
