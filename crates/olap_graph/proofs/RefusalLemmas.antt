-- The first reason to refuse a category or an edge, by what the tests say; and what a refusal rules out.
use Rattle.std.proofs.Common.{◌≡◌, Result, Ok, Err, ℕ, ◌<◌, ◌≤◌, List, length, Bool, true, false, Option, None, Some, ap, ◌∙◌, arith, refl}
use Rattle.std.{proofs.lemmas.Bool.false≢true, proofs.lemmas.Bool.Decides.nat_tests, specs.Option.option_map}
use Rattle.std.specs.Prelude.{IfOk, IsErr, OnErr, is_some, nat_le, if◌then◌else◌, ◌==◌}
use Rattle.olap_base.specs.{Graph.{Graph, category_count}, Limits.{most_categories, most_edges}}
use Rattle.olap_graph.specs.{Building.{category_refusal, edge_refusal}, Lookups.{category_named, edge_between}}
use Rattle.olap_graph.specs.declared.refusals.{CategoryFault.CategoryFault, EdgeFault.EdgeFault}
use Rattle.olap_graph.specs.declared.refusals.CategoryFault.TheVariants as of_category
use Rattle.olap_graph.specs.declared.refusals.EdgeFault.TheVariants as of_edge

-- what is found by its place is found
pub found : {A : Type 0} (f : A → ℕ) (o : Option A) {p : Option ℕ} {b : Bool} → option_map f o ≡ p → b ≡ is_some o
    → b ≡ is_some p
found f None e h = h ∙ ap is_some e
found f (Some x) e h = h ∙ ap is_some e

-- a limit is reached, or isn't
pub is_full : (most n k : ℕ) → most ≤ n → n ≡ k → true ≡ nat_le most k
is_full most n k h e = grind (arith, nat_tests)

-- or isn't
pub has_room : (most n k : ℕ) → n < most → n ≡ k → false ≡ nat_le most k
has_room most n k h e = grind (arith, nat_tests)

-- the first reason to refuse a category, by the tests
abbrev pub category_reason : Bool → Bool → Option CategoryFault
category_reason taken full =
    if taken then Some of_category.DuplicateCategory
    else if full then Some of_category.TooManyCategories
    else None

-- it is the refusal
pub category_reason_is : (g : Graph) (name : List ℕ) (taken full : Bool) → taken ≡ is_some (category_named g name)
    → full ≡ nat_le most_categories (category_count g) → category_refusal g name ≡ category_reason taken full
category_reason_is g name taken full t f = rw (t, f) refl

-- the first reason to refuse an edge, by the tests
abbrev pub edge_reason : Bool → Bool → Bool → Bool → Option EdgeFault
edge_reason loop from_all taken full =
    if loop then Some of_edge.SelfEdge
    else if from_all then Some of_edge.EdgeFromAll
    else if taken then Some of_edge.DuplicateEdge
    else if full then Some of_edge.TooManyEdges
    else None

-- it is the refusal
pub edge_reason_is : (g : Graph) (c d : ℕ) (loop from_all taken full : Bool) → loop ≡ (c == d) → from_all ≡ (c == 0)
    → taken ≡ is_some (edge_between g c d) → full ≡ nat_le most_edges (length g.edges)
    → edge_refusal g c d ≡ edge_reason loop from_all taken full
edge_reason_is g c d loop from_all taken full l a t f = rw (l, a, t, f) refl

-- a refusal is no value
pub no_value : {T E : Type 0} (r : Result T E) (P : T → Type 0) → IsErr r → IfOk r P
no_value (Ok x) P h = absurd (false≢true h)
no_value (Err e) P h = tt

-- what holds anyway holds at a refusal
pub at_refusal : {T E : Type 0} (r : Result T E) {P : Type 0} → P → OnErr r P
at_refusal (Ok x) p = tt
at_refusal (Err e) p = p
