-- The names so far are joined.
use Rattle.std.{proofs.Common.{◌≡◌, map, take}, specs.List.join_with_byte}
use Rattle.olap_cube.specs.CubeSummarizable.{graphs_of}
use Rattle.olap_cube_summ.specs.{Dimensions.schemas_of, Telling.names_of}
use Rattle.olap_cube_summ.proofs.printing.names.Given as goal

abbrev pub invariant-dimensions : goal.invariant-dimensions
invariant-dimensions l = l.names.items
    ≡ join_with_byte 44 (take l.i (names_of (graphs_of (schemas_of l.cube)) (map (λ c. c.0) l.categories)))
