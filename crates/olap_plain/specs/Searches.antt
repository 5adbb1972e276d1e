-- The inside of a search.
use Rattle.std.specs.Prelude.{◌≡◌, ℕ, List, length}
use Rattle.olap_ast.specs.Formula.{Formula}
use Rattle.olap_ast.specs.Schema.{Constraint}
use Rattle.olap_ast.specs.Frozen.{AreCandidates}
use Rattle.olap_base.specs.Graph.{Graph, IsCategory, category_count}
use Rattle.olap_plain.specs.declared.searching.Search.{Search}
use Rattle.olap_names.specs.Names.{candidates_of, with_graph}

-- the search has room for the graph, and the candidates of the constraints and the question
pub record IsMadeWith (g : Graph) (cs : List Constraint) (q : Formula) (r : ℕ) (search : Search) : Type 0 where
  pub root_is : search.root.0 ≡ r
  pub root : IsCategory g r
  pub candidates : AreCandidates (with_graph g cs) q (candidates_of search.candidates)
  pub texts : length search.candidates.texts ≡ category_count g
  pub edges : length search.edges.items ≡ length g.edges
  pub walk : length search.walk.indexes ≡ category_count g
  pub rows : length search.room.rows.items ≡ category_count g
