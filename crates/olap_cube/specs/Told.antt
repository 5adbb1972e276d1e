-- The lists of numbers that the program's tuples of categories stand for.
--     tuple_of     the numbers of a tuple's categories
--     tuples_in    those of each tuple of a list
use Rattle.std.specs.Prelude.{ℕ, List, map}
use Rattle.olap_cube.specs.declared.tuples.Tuple.{Tuple}

abbrev pub tuple_of : Tuple → List ℕ
tuple_of t = map (λ c. c.0) t.categories

abbrev pub tuples_in : List Tuple → List (List ℕ)
tuples_in tuples = map tuple_of tuples
