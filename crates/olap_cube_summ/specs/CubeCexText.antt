-- The lines of a cube's counterexample: those of each dimension, a fact of value 1 at the roots, and two sums.
--     tuple_text                  names of categories with commas between them
--     dimensions_text             of each dimension its number, its frozen dimension and its instance
--     roots_of                    where the fact stands
--     cube_counterexample_text    all lines
use Rattle.std.specs.Prelude.{ℕ, ◌+◌, List, [], ◌∷◌, ◌++◌, codes, map, zip}
use Rattle.std.specs.Fmt.{decimal}
use Rattle.std.specs.List.{join_with_byte}
use Rattle.olap_ast.specs.Frozen.{root_place, thawed}
use Rattle.olap_ast.specs.Schema.{Schema}
use Rattle.olap_base.specs.Bytes.{comma, line_feed}
use Rattle.olap_base.specs.Graph.{Graph}
use Rattle.olap_cex.specs.CexText.{sums_lines}
use Rattle.olap_cex.specs.FrozenText.{frozen_text}
use Rattle.olap_base.specs.Views.{direct_rows, direct_views, one_fact, only_sum, rows_from_views}
use Rattle.olap_cube.specs.CubeSummarizable.{Chosen, bottoms_of, graphs_of, instances_of}
use Rattle.olap_cube.specs.CubeViews.{tuples}
use Rattle.olap_graph.specs.Lookups.{name_of_category}
use Rattle.olap_instance.specs.Printing.{text_of_instance}

-- ---- tuples

-- the names of the categories, one of each dimension, with commas between them
abbrev pub tuple_text : List Graph → List ℕ → List ℕ
tuple_text gs c = join_with_byte comma (map (λ p. name_of_category p.0 p.1) (zip gs c))

-- ---- dimensions

-- the line of the dimension's number, that of its frozen dimension, and its instance
abbrev pub dimension_text : ℕ → Schema → Chosen → List ℕ
dimension_text n s p =
    (codes "dimension " ++ (decimal n ++ line_feed ∷ [])) ++ (frozen_text s.graph p.candidates p.bottom p.frozen
    ++ text_of_instance s.graph (thawed s p.candidates p.bottom p.frozen))

-- of each dimension, numbered from n
abbrev pub dimensions_text : ℕ → List Schema → List Chosen → List ℕ
dimensions_text n (s ∷ ss) (p ∷ ps) = dimension_text n s p ++ dimensions_text (n + 1) ss ps
dimensions_text _ _ _ = []

-- ---- sums

-- the place of each root's member
abbrev pub roots_of : List Schema → List Chosen → List ℕ
roots_of schemas choice = map (λ p. root_place p.0 p.1.bottom p.1.frozen) (zip schemas choice)

-- What is printed about each dimension of the choice, and what a fact of value 1 at its roots adds up to at c: the SUM
-- of the direct view, and that of the view from the sources' direct views.
abbrev pub cube_counterexample_text : List Schema → List Chosen → List ℕ → List (List ℕ) → List ℕ
cube_counterexample_text schemas choice c sources =
    let points = tuples (instances_of schemas choice) in
    let facts = one_fact (roots_of schemas choice) in
    let names = tuple_text (graphs_of schemas) in
    dimensions_text 1 schemas choice ++ sums_lines (names (bottoms_of choice)) (names c)
    (only_sum (direct_rows points c facts)) (only_sum (rows_from_views points c (direct_views points facts sources)))
