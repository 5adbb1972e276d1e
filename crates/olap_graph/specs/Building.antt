-- Graphs in the making: what holds of them at each moment, and why another category or edge is refused.
--     IsWithinLimits       there are not too many categories and edges, and no name is too long
--     IsUnfinished         a hierarchy schema but for the walks to `All`
--     category_refusal     the first reason to refuse a category
--     edge_refusal         the first reason to refuse an edge
--     IsFirstWithoutWay    the first declared category that doesn't reach `All`
use Rattle.std.specs.Prelude.{◌≡◌, ◌≢◌, ℕ, Bool, true, false, ◌<◌, ◌≤◌, List, [], ◌∷◌, ◌++◌, length, AllPairs, Contains, codes, Option, Some, None, is_some, nat_le, if◌then◌else◌, ◌==◌}
use Rattle.olap_base.specs.Graph.{Graph, category_count, IsCategory, IsDeclared, HasEdge, CategoryReaches, IsCategoryName}
use Rattle.olap_base.specs.Limits.{most_categories, most_edges, most_text_bytes}
use Rattle.olap_graph.specs.Lookups.{category_named, edge_between}
use Rattle.olap_graph.specs.declared.refusals.CategoryFault.{CategoryFault}
use Rattle.olap_graph.specs.declared.refusals.CategoryFault.TheVariants as of_category
use Rattle.olap_graph.specs.declared.refusals.EdgeFault.{EdgeFault}
use Rattle.olap_graph.specs.declared.refusals.EdgeFault.TheVariants as of_edge
use Rattle.olap_graph.specs.declared.refusals.NoWayToAll.{NoWayToAll}

-- no more categories, edges and bytes of a name than there may be
pub record IsWithinLimits (g : Graph) : Type 0 where
  pub few : category_count g ≤ most_categories
  pub few_edges : length g.edges ≤ most_edges
  pub short_names : (name : List ℕ) → Contains g.names name → length name ≤ most_text_bytes

-- names and edges differ, and no edge is a loop or leaves `All`
pub record IsUnfinished (g : Graph) : Type 0 where
  pub names_differ : AllPairs ◌≢◌ g.names
  pub kinds_known : length g.numbers ≡ length g.names
  pub names : (name : List ℕ) → Contains g.names name → IsCategoryName name × (name ≢ codes "All")
  pub categories : (c d : ℕ) → HasEdge g c d → IsCategory g c × IsCategory g d
  pub edges_differ : AllPairs ◌≢◌ g.edges
  pub no_loop : (c d : ℕ) → HasEdge g c d → c ≢ d
  pub none_from_all : (d : ℕ) → HasEdge g 0 d → ⊥

-- `All` alone
abbrev pub all_alone : Graph
all_alone = record { names = []; numbers = []; edges = [] }

-- the graph with one more category, of numbers or not
abbrev pub with_kind : Bool → Graph → List ℕ → Graph
with_kind number g name = record g { names = g.names ++ name ∷ []; numbers = g.numbers ++ number ∷ [] }

-- the graph with one more category, whose names are texts
abbrev pub with_category : Graph → List ℕ → Graph
with_category g name = with_kind false g name

-- the graph with one more category, whose names are numbers
abbrev pub with_number_category : Graph → List ℕ → Graph
with_number_category g name = with_kind true g name

-- the graph with one more edge
abbrev pub with_edge : Graph → ℕ → ℕ → Graph
with_edge g c d = record g { edges = g.edges ++ record { child = c; parent = d } ∷ [] }

-- the first reason to refuse a category of this name: it is taken, or there are as many categories as may be
abbrev pub category_refusal : Graph → List ℕ → Option CategoryFault
category_refusal g name =
    if is_some (category_named g name) then Some of_category.DuplicateCategory
    else if nat_le most_categories (category_count g) then Some of_category.TooManyCategories
    else None

-- the first reason to refuse an edge from c to d
abbrev pub edge_refusal : Graph → ℕ → ℕ → Option EdgeFault
edge_refusal g c d =
    if c == d then Some of_edge.SelfEdge
    else if c == 0 then Some of_edge.EdgeFromAll
    else if is_some (edge_between g c d) then Some of_edge.DuplicateEdge
    else if nat_le most_edges (length g.edges) then Some of_edge.TooManyEdges
    else None

-- no walk leads from the declared category c to `All`, and from each declared one before it one does
pub record IsFirstWithoutWay (g : Graph) (c : ℕ) : Type 0 where
  pub declared : IsDeclared g c
  pub none : CategoryReaches g c 0 → ⊥
  pub before : (d : ℕ) → IsDeclared g d → d < c → CategoryReaches g d 0

-- why a graph is refused: the first category without a way
abbrev pub IsWithoutWay : Graph → NoWayToAll → Type 0
IsWithoutWay g c = IsFirstWithoutWay g c.0.0
