-- The tables that a place keeps.
use Rattle.std.specs.Prelude.{◌≡◌, length, true}
use Rattle.olap_base.specs.Graph.{category_count}
use Rattle.olap_proof.specs.declared.places.Place.TheInside as place
use Rattle.olap_proof.specs.Kept.{place_kept}
use Rattle.olap_proof.specs.Places.{leading_graph, possible_graph}
use Rattle.olap_proof.specs.Tables.{IsTable}

-- there is a set for each category, and where the tables are those of what is decided, it has what is reached
pub record IsTabled (a : place.Inside) : Type 0 where
  pub possible_size : length a.possible.items ≡ category_count a.trail.graph
  pub leading_size : length a.leading.items ≡ category_count a.trail.graph
  pub possible : a.fresh ≡ true → IsTable (possible_graph a.trail) (category_count a.trail.graph) a.possible.items
  pub leading : a.fresh ≡ true
      → IsTable (leading_graph (place_kept a)) (category_count a.trail.graph) a.leading.items
