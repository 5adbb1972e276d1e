-- What is left of each order once its schemas are read, and its target too. Words are counted from 1.
--     cube_from, cubeview_from      after the target
--     cube_under, cubeview_under    under schemas
use Rattle.std.specs.Prelude.{ℕ, ◌+◌, List, []}
use Rattle.olap_ast.specs.Schema.{Schema}
use Rattle.olap_base.specs.Views.{direct_view}
use Rattle.olap_cube.specs.CubeViews.{tuples}
use Rattle.olap_cube_views.specs.CubeViewText.{cube_view_text}
use Rattle.olap_order.specs.Order.{Order, Done, Told, and_then}
use Rattle.olap_order.specs.declared.status.Status.TheVariants.{Yes}
use Rattle.olap_cubes.specs.Questions.{Question, ByCube}
use Rattle.olap_cubes.specs.Cut.{different_tuples_from, legal_files_from}
use Rattle.olap_cubes.specs.Steps.{cube_facts_file, tuple_word}

-- the sources from left to right, the first of which is the word of this number
abbrev pub cube_from : List Schema → ℕ → (target : List ℕ) (sources : List (List ℕ)) → Order Question
cube_from ss at c sources = and_then (different_tuples_from ss at [] sources) (λ cs. Done (ByCube ss c cs))

-- the target, which is the word of this number, and the sources after it
abbrev pub cube_under : List Schema → ℕ → (target : List ℕ) (sources : List (List ℕ)) → Order Question
cube_under ss at target sources =
    and_then (tuple_word ss at target) (λ c. cube_from ss (at + 1) c sources)

-- the instances in order, each with its laws, and then the facts
abbrev pub cubeview_from : List Schema → (target : List ℕ) (instances : List (List ℕ)) (facts : List ℕ)
    → Order Question
cubeview_from ss c instances facts =
    and_then (legal_files_from 1 [] ss instances) (λ is.
    and_then (cube_facts_file ss is facts) (λ table.
    Told Yes (cube_view_text is (direct_view (tuples is) table c))))

-- the target, which is the word of this number, and then what is left
abbrev pub cubeview_under : List Schema → ℕ → (instances : List (List ℕ)) (facts target : List ℕ) → Order Question
cubeview_under ss at instances facts target =
    and_then (tuple_word ss at target) (λ c. cubeview_from ss c instances facts)
