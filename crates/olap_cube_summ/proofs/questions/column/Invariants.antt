-- The categories of the sources so far.
use Rattle.std.proofs.Common.{◌≡◌, get_or, map, take}
use Rattle.olap_cube.specs.Told.{tuples_in}
use Rattle.olap_ast.specs.Trees.{numbers_of}
use Rattle.olap_cube_summ.proofs.questions.column.Given as goal

abbrev pub invariant-sources : goal.invariant-sources
invariant-sources l =
    numbers_of l.column.items ≡ map (λ w. get_or w l.i 0) (take l.source-index (tuples_in l.sources))
