-- What holds of the text of every counterexample.
--     OneChoiceHasOneText          two choices that can't be told apart have one text
--     CubeCounterexampleSumsDiffer the two SUMs of a bad choice's text differ
use Rattle.std.specs.Prelude.{◌≡◌, ℕ, List, All}
use Rattle.olap_ast.specs.Schema.{Schema}
use Rattle.olap_base.specs.Graph.{IsHierarchy}
use Rattle.olap_cube.specs.CubeSummarizable.{AreOneChoice, Chosen, HasTwoCubeSums, IsBadChoice, graphs_of, instances_of}
use Rattle.olap_cube_summ.specs.CubeCexText.{cube_counterexample_text, roots_of}

-- two choices that can't be told apart have one text
abbrev pub OneChoiceHasOneText : Type 0
OneChoiceHasOneText = (schemas : List Schema) (one other : List Chosen) (c : List ℕ) (sources : List (List ℕ)) →
    AreOneChoice schemas one other →
    cube_counterexample_text schemas one c sources ≡ cube_counterexample_text schemas other c sources

-- the fact of value 1 at the roots of a bad choice, where its text has it, has the direct SUM 1 and another, or none,
-- from the sources
abbrev pub CubeCounterexampleSumsDiffer : Type 0
CubeCounterexampleSumsDiffer = (schemas : List Schema) (c : List ℕ) (sources : List (List ℕ)) (choice : List Chosen) →
    All IsHierarchy (graphs_of schemas) → IsBadChoice schemas c sources choice →
    HasTwoCubeSums schemas (instances_of schemas choice) c (roots_of schemas choice) sources
