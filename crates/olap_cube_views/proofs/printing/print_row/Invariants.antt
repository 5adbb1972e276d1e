-- The ids of the first members.
use Rattle.std.proofs.Common.{length, map, take}
use Rattle.olap_cube_views.{proofs.CubePrintingLemmas.IdsSoFar, specs.Dimensions.instances_of}
use Rattle.olap_cube_views.proofs.printing.print_row.Given as goal

abbrev pub invariant-ids : goal.invariant-ids
invariant-ids l =
    IdsSoFar (instances_of l.instances) (take (length (instances_of l.instances)) l.row.members.places) l.k
    (map (λ f. f.now) l.fields.items)
