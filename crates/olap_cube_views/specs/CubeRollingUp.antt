-- The view of a text of a cube's facts.
--     IsCubeRolledUp   a view is the direct one of the facts that a text stands for
use Rattle.std.specs.Prelude.{◌≡◌, ℕ, List, Ok}
use Rattle.olap_base.specs.Graph.{Graph}
use Rattle.olap_base.specs.Instance.{Instance}
use Rattle.olap_base.specs.Limits.{most_facts}
use Rattle.olap_base.specs.Views.{Fact, View, direct_view}
use Rattle.olap_cube.specs.CubeViews.{tuples}
use Rattle.olap_cube_views.specs.CubeFactText.{cube_facts_read_within}

-- the records stand for facts, and the view is the direct one of this target
pub record IsCubeRolledUp (gs : List Graph) (is : List Instance) (records : List (List (List ℕ))) (target : List ℕ)
    (view : View (List ℕ) (List ℕ)) : Type 0 where
  pub facts : List (Fact (List ℕ))
  pub read : cube_facts_read_within most_facts gs is records ≡ Ok facts
  pub direct : view ≡ direct_view (tuples is) facts target
