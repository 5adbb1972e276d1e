-- What holds of the definition of a text of a cube's facts.
--     CubeFactsAreMeant   what is read of a text is what it means
use Rattle.std.specs.Prelude.{◌≡◌, ℕ, List, length}
use Rattle.olap_base.specs.Graph.{Graph}
use Rattle.olap_base.specs.Instance.{Instance}
use Rattle.olap_records.specs.Tables.{named}
use Rattle.olap_facts.specs.Kinds.{name_of_kind}
use Rattle.olap_cube_views.specs.CubeFactMeaning.{cube_facts_meant}
use Rattle.olap_cube_views.specs.CubeFactText.{cube_facts_read_within}

-- where each graph has its instance, what is read of a text is what it means, with a fault's name in place of its kind
abbrev pub CubeFactsAreMeant : Type 0
CubeFactsAreMeant = (most : ℕ) (gs : List Graph) (is : List Instance) → length gs ≡ length is
    → (records : List (List (List ℕ)))
    → cube_facts_meant most gs is records ≡ named name_of_kind (cube_facts_read_within most gs is records)
