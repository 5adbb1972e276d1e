-- The totals of the facts in a file, if the facts aren't kept.
--     IsOfFacts   a view of the facts that a step read
use Rattle.std.specs.Prelude.{◌≡◌, List, ℕ, Ok}
use Rattle.olap_ast.specs.Schema.{Schema}
use Rattle.olap_base.specs.Instance.{Instance}
use Rattle.olap_outside.specs.declared.outside.Library.{Ghosts as Library}
use Rattle.olap_base.specs.Views.{Fact, View, direct_view}
use Rattle.olap_cube.specs.CubeViews.{tuples}
use Rattle.olap_order.specs.Taken.{FileStep}
use Rattle.olap_cubes.specs.Steps.{cube_facts_file}

-- the view is the direct one of the facts in a file
pub record IsOfFacts {D : Type 0} (L : Library D) (old new : D) (schemas : List Schema) (is : List Instance)
    (target file : List ℕ) (view : View (List ℕ) (List ℕ)) : Type 0 where
  pub facts : List (Fact (List ℕ))
  pub direct : view ≡ direct_view (tuples is) facts target
  pub step : FileStep L old new (cube_facts_file schemas is file) (λ facts. facts) (Ok facts)
