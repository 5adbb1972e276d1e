-- The distinct atoms on names and the distinct atoms on numbers, as the program counts them. `ComparedLemmas` says that
-- together they are as many as `constant_count` counts.
--     with_pair, with_number               the atoms with one more, if it is new
--     distinct_pairs, distinct_numbers     the distinct ones
--     pair_count                           how many there are
use Rattle.std.specs.Prelude.{◌==◌, ◌&&◌, ℕ, ◌+◌, List, [], Bool, fold, length}
use Rattle.std.specs.Ordering.{int_eq}
use Rattle.std.specs.Str.{bytes_eq}
use Rattle.olap_ast.specs.Atoms.{Comparison, Equality}
use Rattle.olap_ast.specs.Valid.{with_new}

-- the two atoms speak of one category and one text
abbrev pub is_same_pair : Equality → Equality → Bool
is_same_pair a b = (a.category == b.category) && bytes_eq a.text b.text

-- the pairs with one more, if it is new
abbrev pub with_pair : List Equality → Equality → List Equality
with_pair pairs a = with_new is_same_pair pairs a

-- the distinct pairs of the atoms, in the order of their first places
abbrev pub distinct_pairs : List Equality → List Equality
distinct_pairs atoms = fold with_pair [] atoms

-- the two atoms speak of one category and one number
abbrev pub is_same_number : Comparison → Comparison → Bool
is_same_number a b = (a.category == b.category) && int_eq a.number b.number

-- the pairs with one more, if it is new
abbrev pub with_number : List Comparison → Comparison → List Comparison
with_number pairs a = with_new is_same_number pairs a

-- the distinct pairs of a category and a number, in the order of their first places
abbrev pub distinct_numbers : List Comparison → List Comparison
distinct_numbers atoms = fold with_number [] atoms

-- how many distinct constants there are, texts and numbers, each counted for each category that it is compared with
abbrev pub pair_count : List Equality → List Comparison → ℕ
pair_count texts numbers = length (distinct_pairs texts) + length (distinct_numbers numbers)
