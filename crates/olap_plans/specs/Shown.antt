-- What a plan gives.
--     ShowsPlan       a plan, and the view that it gives
use Rattle.std.specs.Prelude.{◌≡◌, ℕ, List, ◌++◌}
use Rattle.olap_ast.specs.Schema.{Schema}
use Rattle.olap_base.specs.Instance.{Instance}
use Rattle.olap_base.specs.Views.{View, members, rows_from_views}
use Rattle.olap_nav.specs.PlanText.{plan_text}
use Rattle.olap_nav.specs.Plans.{IsPlan, sources_in}
use Rattle.olap_view.specs.Stores.{chosen}
use Rattle.olap_view.specs.ViewText.{view_text}

-- the plan for c, and the view of c from its views
pub record ShowsPlan (s : Schema) (i : Instance) (views : List (View ℕ ℕ)) (c : ℕ) (bytes : List ℕ) : Type 0 where
  pub mask : ℕ
  pub plan : IsPlan s views c mask
  pub text : bytes ≡ plan_text s.graph (sources_in views mask)
      ++ view_text i (record { target = c; rows = rows_from_views (members i) c (chosen views mask) })
