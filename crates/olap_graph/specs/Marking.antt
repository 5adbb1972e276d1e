-- Marks of numbers, and the parents of edges.
use Rattle.std.specs.Prelude.{ℕ, suc, List, [], ◌∷◌, map, Bool, true, false}
use Rattle.olap_base.specs.declared.ids.EdgeId.{EdgeId}
use Rattle.olap_base.specs.Graph.{Graph}
use Rattle.olap_graph.specs.Lookups.{edge_at}

-- how many marks are not set
abbrev pub unmarked_count : List Bool → ℕ
unmarked_count [] = 0
unmarked_count (true ∷ bs) = unmarked_count bs
unmarked_count (false ∷ bs) = suc (unmarked_count bs)

-- the parents of these edges
abbrev pub parents_of : Graph → List EdgeId → List ℕ
parents_of g out = map (λ e. (edge_at g e.0).parent) out
