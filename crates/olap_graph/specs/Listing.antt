-- The graph that a list of names and a list of ends stand for.
use Rattle.std.specs.Prelude.{◌≡◌, ℕ, Bool, List, ◌∷◌, map, drop, codes}
use Rattle.olap_base.specs.Graph.{Edge, Graph}
use Rattle.olap_graph.specs.declared.listing.Ends.{Ends}

-- the edge between two ends
abbrev pub edge_of : Ends → Edge
edge_of e = record { child = e.child.0; parent = e.parent.0 }

-- the graph of a list of names, `All` first, of the kinds of the declared ones, and a list of ends
abbrev pub graph_of : List (List ℕ) → List Bool → List Ends → Graph
graph_of names kinds ends = record { names = drop 1 names; numbers = kinds; edges = map edge_of ends }

-- the first name is that of `All`
abbrev pub IsHeaded : List (List ℕ) → Type 0
IsHeaded names = names ≡ codes "All" ∷ drop 1 names
