-- Decisions on the edges of a category graph, and the graph of the edges that were decided present.
--     Decision         an edge, and whether it is present
--     Decided          a graph, a root, and decisions on edges in the order in which they were made
--     AreDecisions     the root is a category, each edge is one of the graph, and no edge is decided twice
--     status_of        what was decided of an edge
--     present_graph    the graph with the edges alone that were decided present
--     present_with     the same with one edge more
--     IsPresent        the root reaches the category by edges that were decided present
--     HoldsCycle       some category climbs back to itself
--     HoldsShortcut    an edge, and a walk of two edges or more between the same categories
use Rattle.std.specs.Prelude.{ℕ, ◌≢◌, ◌<◌, ◌==◌, ◌++◌, List, [], ◌∷◌, length, map, filter, All, AllPairs, Bool, Option, Some, None, if◌then◌else◌}
use Rattle.olap_base.specs.Graph.{Edge, Graph, HasEdge, IsCategory, CategoryReaches}
use Rattle.olap_base.specs.Steps.{Climb}
use Rattle.olap_graph.specs.Lookups.{edge_at}

-- an edge, and whether it is present
pub record Decision : Type 0 where
  pub edge : ℕ
  pub present : Bool

-- a graph, a root, and decisions on edges in the order in which they were made
pub record Decided : Type 0 where
  pub graph : Graph
  pub root : ℕ
  pub decisions : List Decision

-- the root is a category, each edge is one of the graph, and no edge is decided twice
pub record AreDecisions (t : Decided) : Type 0 where
  pub root : IsCategory t.graph t.root
  pub edges : All (λ d. d.edge < length t.graph.edges) t.decisions
  pub edges_differ : AllPairs ◌≢◌ (map (λ d. d.edge) t.decisions)

-- what these decisions say of an edge
abbrev pub status_in : List Decision → ℕ → Option Bool
status_in [] e = None
status_in (d ∷ ds) e = if d.edge == e then Some d.present else status_in ds e

-- what was decided of an edge
abbrev pub status_of : Decided → ℕ → Option Bool
status_of t e = status_in t.decisions e

-- the edges that were decided present
abbrev pub present_edges : Decided → List Edge
present_edges t = map (λ d. edge_at t.graph d.edge) (filter (λ d. d.present) t.decisions)

-- the graph with the edges alone that were decided present
abbrev pub present_graph : Decided → Graph
present_graph t = record { names = t.graph.names; numbers = t.graph.numbers; edges = present_edges t }

-- the same with one edge more
abbrev pub present_with : Decided → ℕ → Graph
present_with t e = record {
  names = t.graph.names;
  numbers = t.graph.numbers;
  edges = present_edges t ++ edge_at t.graph e ∷ [];
}

-- the root reaches the category by edges that were decided present
abbrev pub IsPresent : Decided → ℕ → Type 0
IsPresent t c = CategoryReaches (present_graph t) t.root c

-- some category climbs back to itself
abbrev pub HoldsCycle : Graph → Type 0
HoldsCycle g = (c : ℕ) × Climb (HasEdge g) c c

-- an edge, and a walk of two edges or more between the same categories
pub record HoldsShortcut (g : Graph) : Type 0 where
  pub child : ℕ
  pub parent : ℕ
  pub through : ℕ
  pub edge : HasEdge g child parent
  pub first : HasEdge g child through
  pub rest : Climb (HasEdge g) through parent
