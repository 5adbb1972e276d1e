-- Look-ups of a graph.
--     names_of            the names of all categories
--     name_of_category    the name of one
--     category_named      the category of a name
--     edge_between        the edge from one category to another
--     edges_from          the edges out of a category
use Rattle.std.specs.Prelude.{ℕ, List, [], ◌∷◌, Option, slice_index_or, codes, filter, length, ◌==◌, ◌&&◌, Bool}
use Rattle.std.specs.List.{position_from, range_with_len}
use Rattle.olap_base.specs.Graph.{Edge, Graph}
use Rattle.olap_base.specs.Naming.{place_of}

-- the names of all categories, `All` first
abbrev pub names_of : Graph → List (List ℕ)
names_of g = codes "All" ∷ g.names

-- the name of a category
abbrev pub name_of_category : Graph → ℕ → List ℕ
name_of_category g c = slice_index_or (names_of g) c []

-- the category of that name
abbrev pub category_named : Graph → List ℕ → Option ℕ
category_named g name = place_of name (names_of g)

-- whether an edge goes from c to d
abbrev pub joins : ℕ → ℕ → Edge → Bool
joins c d e = (e.child == c) && (e.parent == d)

-- the edge from c to d, by its place in the list of edges
abbrev pub edge_between : Graph → ℕ → ℕ → Option ℕ
edge_between g c d = position_from (joins c d) 0 g.edges

-- the edge at a place
abbrev pub edge_at : Graph → ℕ → Edge
edge_at g e = slice_index_or g.edges e (record { child = 0; parent = 0 })

-- the edges out of c, in declaration order
abbrev pub edges_from : Graph → ℕ → List ℕ
edges_from g c = filter (λ e. (edge_at g e).child == c) (range_with_len 0 (length g.edges))
