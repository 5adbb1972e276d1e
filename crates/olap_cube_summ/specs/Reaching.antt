-- By which sources the roots reach the target, dimension by dimension.
--     ReachesBy    the root of one frozen dimension does
--     ReachesAt    that of the i-th does
--     ReachBy      those of all do
use Rattle.std.specs.Prelude.{ℕ, List, map, slice_index, slice_index_or}
use Rattle.olap_ast.specs.Schema.{Schema}
use Rattle.olap_base.specs.Instance.{ReachesVia}
use Rattle.olap_cex.specs.FoundFor.{found_instance, found_place}
use Rattle.olap_cube.specs.CubeSummarizable.{instances_of}
use Rattle.olap_cube.specs.Tuples.{TupleReachesVia}
use Rattle.olap_cube_summ.specs.Dimensions.{no_schema}
use Rattle.olap_cube_summ.specs.Found.{chosen_of}
use Rattle.olap_frozen.specs.declared.founding.Found.{Found}
use Rattle.olap_cube_summ.specs.CubeCexText.{roots_of}

-- the root of the frozen dimension reaches the target c by the source t
abbrev pub ReachesBy : Schema → Found → ℕ → ℕ → Type 0
ReachesBy s f t c = ReachesVia (found_instance s.graph f) (found_place s.graph f) t c

-- in the i-th dimension; d stands past the last frozen dimension
abbrev pub ReachesAt : List Schema → List Found → List ℕ → List ℕ → ℕ → Type 0
ReachesAt ss fs t c i =
    (d : Found) → ReachesBy (slice_index_or ss i no_schema) (slice_index_or fs i d) (slice_index t i) (slice_index c i)

-- in every dimension
abbrev pub ReachBy : List Schema → List Found → List ℕ → List ℕ → Type 0
ReachBy ss fs t c = TupleReachesVia (instances_of ss (map chosen_of fs)) (roots_of ss (map chosen_of fs)) t c
