-- How the lines of a cube's counterexample are made.
--     names_of            the names of categories, one of each dimension
--     number_line         the line of a dimension's number
--     cube_direct_sum, cube_views_sum    the two sums of one fact of value 1
--     cube_sums_text      the lines of the fact and of its two sums
use Rattle.std.specs.Prelude.{ℕ, ℤ, List, [], ◌∷◌, ◌++◌, Option, codes, map, zip}
use Rattle.std.specs.Fmt.{decimal}
use Rattle.olap_base.specs.Bytes.{line_feed}
use Rattle.olap_base.specs.Graph.{Graph}
use Rattle.olap_base.specs.Instance.{Instance}
use Rattle.olap_cex.specs.CexText.{sums_lines}
use Rattle.olap_base.specs.Views.{direct_rows, direct_views, one_fact, only_sum, rows_from_views}
use Rattle.olap_cube.specs.CubeViews.{tuples}
use Rattle.olap_cube_summ.specs.CubeCexText.{tuple_text}
use Rattle.olap_graph.specs.Lookups.{name_of_category}

-- the name of the category of each dimension
abbrev pub names_of : List Graph → List ℕ → List (List ℕ)
names_of gs c = map (λ p. name_of_category p.0 p.1) (zip gs c)

-- the line of the dimension's number
abbrev pub number_line : ℕ → List ℕ
number_line n = codes "dimension " ++ (decimal n ++ line_feed ∷ [])

-- the SUM of the direct view of c, for one fact of value 1 at x
abbrev pub cube_direct_sum : List Instance → List ℕ → List ℕ → Option ℤ
cube_direct_sum is x c = only_sum (direct_rows (tuples is) c (one_fact x))

-- the SUM of the view of c from the sources' direct views, for that fact
abbrev pub cube_views_sum : List Instance → List ℕ → List ℕ → List (List ℕ) → Option ℤ
cube_views_sum is x c sources =
    only_sum (rows_from_views (tuples is) c (direct_views (tuples is) (one_fact x) sources))

-- the fact of value 1 at the roots b, the direct SUM of c, and the SUM from the sources
abbrev pub cube_sums_text : List Graph → List ℕ → List ℕ → Option ℤ → Option ℤ → List ℕ
cube_sums_text gs b c direct views = sums_lines (tuple_text gs b) (tuple_text gs c) direct views
