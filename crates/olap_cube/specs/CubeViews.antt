-- Tuples of members as points: facts at them, and views of tuples of categories. With one dimension they are the facts
-- and views of the dimension.
--     IsCubeFactTable           each fact stands at members of bottom categories
--     CubeReachedByOne          each tuple of bottom members that reaches the target does so by exactly one source
use Rattle.std.specs.Prelude.{◌≡◌, ℕ, List, [], Contains, ◌↔◌}
use Rattle.std.specs.List.{cons_option}
use Rattle.olap_base.specs.Graph.{Graph}
use Rattle.olap_base.specs.Instance.{Instance}
use Rattle.olap_base.specs.OneFact.{HoldsTimes, ones}
use Rattle.olap_base.specs.Views.{ExactlyOne, Fact, Points, ViewsAgree, direct_rows, direct_views, one_fact, row_at, rows_from_views}
use Rattle.olap_cube.specs.Tuples.{AreLawful, IsBottomTuple, IsTupleOf, TupleReaches, TupleReachesVia, tuple_reaches, tuples_of}

-- the tuples of members of these instances as points
abbrev pub tuples : List Instance → Points (List ℕ) (List ℕ)
tuples is = record { reaches = tuple_reaches is; of = tuples_of is }

-- each fact stands at members of bottom categories
abbrev pub IsCubeFactTable : List Graph → List Instance → List (Fact (List ℕ)) → Type 0
IsCubeFactTable gs is facts = (f : Fact (List ℕ)) → Contains facts f → IsBottomTuple gs is f.at

-- each tuple of bottom members that reaches one of c reaches it by exactly one of the sources
abbrev pub CubeReachedByOne : List Graph → List Instance → List ℕ → List (List ℕ) → Type 0
CubeReachedByOne gs is c sources =
    (x : List ℕ) → IsBottomTuple gs is x → (y : List ℕ) → IsTupleOf is c y → TupleReaches is x y →
    ExactlyOne (λ t. TupleReachesVia is x t c) sources

-- on lawful instances the two agree exactly if each such tuple is reached by one source
abbrev pub CubesAgreeExactlyIfReachedByOne : Type 0
CubesAgreeExactlyIfReachedByOne =
    (gs : List Graph) (is : List Instance) (c : List ℕ) (sources : List (List ℕ)) → AreLawful gs is →
    ViewsAgree (IsCubeFactTable gs is) (tuples is) c sources ↔ CubeReachedByOne gs is c sources

-- where the fact's members x reach y: the direct view is the one row of y, and the view from the sources has as many
-- ones at y as there are sources by which x reaches y, or no row if there is none
abbrev pub OneCubeFactsViews : Type 0
OneCubeFactsViews = (gs : List Graph) (is : List Instance) → AreLawful gs is → (c x y : List ℕ) → IsTupleOf is c y →
    TupleReaches is x y → (sources : List (List ℕ)) (n : ℕ) → HoldsTimes (λ t. TupleReachesVia is x t c) sources n →
    (direct_rows (tuples is) c (one_fact x) ≡ cons_option (row_at y (ones 1)) [])
    × (rows_from_views (tuples is) c (direct_views (tuples is) (one_fact x) sources)
    ≡ cons_option (row_at y (ones n)) [])
