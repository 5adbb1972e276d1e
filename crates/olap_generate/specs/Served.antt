-- What can be answered from what is made.
--     RegionsAreServed    the stored views of what is made serve the regions
use Rattle.std.specs.Prelude.{ℕ, List}
use Rattle.olap_ast.specs.Schema.{Schema}
use Rattle.olap_base.specs.Instance.{Instance}
use Rattle.olap_base.specs.Views.{Fact}
use Rattle.olap_generate.specs.Generated.{stored_views}
use Rattle.olap_generate.specs.Inputs.{IsMade}
use Rattle.olap_generate.specs.Location.{region}
use Rattle.olap_nav.specs.Plans.{Serves}

-- some of the stored views of what is made serve the regions
abbrev pub RegionsAreServed : Type 0
RegionsAreServed = (seed size : ℕ) (s : Schema) (i : Instance) (facts : List (Fact ℕ)) → IsMade seed size s i facts
    → (mask : ℕ) × Serves s (stored_views i facts) region mask
