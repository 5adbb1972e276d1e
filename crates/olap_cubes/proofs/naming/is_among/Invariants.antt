-- None of this many tuples has these categories.
use Rattle.std.{proofs.Common.{◌≡◌, drop, nat_eq}, specs.Cmp.Lexicographic.pointwise, specs.List.list_any}
use Rattle.olap_cube.specs.Told.{tuples_in}
use Rattle.olap_ast.specs.Trees.{numbers_of}
use Rattle.olap_cubes.proofs.naming.is_among.Given as goal

abbrev pub invariant-loop-tuple : goal.invariant-loop-tuple
invariant-loop-tuple l =
    list_any (λ d. pointwise nat_eq d (numbers_of l.categories)) (tuples_in l.tuples)
    ≡ list_any (λ d. pointwise nat_eq d (numbers_of l.categories)) (tuples_in (drop l.tuple-index l.tuples))
