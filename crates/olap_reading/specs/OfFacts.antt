-- The totals of the facts in a file, if the facts aren't kept.
--     AreOfFacts   views of the facts that a step read
use Rattle.std.specs.Prelude.{◌≡◌, List, ℕ, Ok, codes}
use Rattle.olap_ast.specs.Schema.{Schema}
use Rattle.olap_base.specs.Instance.{Instance}
use Rattle.olap_base.specs.Views.{Fact, View, direct_views, members}
use Rattle.olap_outside.specs.declared.outside.Library.{Ghosts as Library}
use Rattle.olap_reading.specs.Steps.{facts_file}
use Rattle.olap_order.specs.Taken.{FileStep}

-- these are the direct views of the facts in a file
pub record AreOfFacts {D : Type 0} (L : Library D) (old new : D) (s : Schema) (i : Instance) (categories file : List ℕ)
    (views : List (View ℕ ℕ)) : Type 0 where
  pub facts : List (Fact ℕ)
  pub direct : views ≡ direct_views (members i) facts categories
  pub step : FileStep L old new (facts_file s i (codes "facts") file) (λ facts. facts) (Ok facts)
