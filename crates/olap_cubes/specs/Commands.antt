-- The order in which each command over several dimensions judges its files and words. The word after its name says how
-- many dimensions there are.
--     dimensions_said    how many dimensions a word says that there are
--     cube_order         of `cube`
--     cubeview_order     of `cubeview`
--     order_named        the order of the command of that name with these words, if there is one
use Rattle.std.specs.Prelude.{ℕ, suc, ◌+◌, ◌*◌, List, [], ◌∷◌, codes, drop, take, if◌then◌else◌, Option, None, option_and_then, option_map}
use Rattle.std.specs.Str.{bytes_eq}
use Rattle.olap_base.specs.Limits.{most_views}
use Rattle.olap_base.specs.Naming.{place_of}
use Rattle.olap_base.specs.Views.{direct_view}
use Rattle.olap_cube.specs.CubeViews.{tuples}
use Rattle.olap_cube_views.specs.CubeViewText.{cube_view_text}
use Rattle.olap_order.specs.Arguments.{at_word, between, exactly, word}
use Rattle.olap_order.specs.Order.{Order, Done, Told, and_then}
use Rattle.olap_order.specs.declared.status.Status.TheVariants.{Yes}
use Rattle.olap_cubes.specs.Questions.{Question, ByCube}
use Rattle.olap_cubes.specs.Steps.{cube_facts_file, different_tuples, legal_files, schema_files, tuple_word}

-- how many dimensions a word says that there are: one to four
abbrev pub dimensions_said : List ℕ → Option ℕ
dimensions_said word = option_map suc (place_of word (codes "1" ∷ codes "2" ∷ codes "3" ∷ codes "4" ∷ []))

-- an order for the number of dimensions that the first word says, and all words
abbrev pub by_dimensions : {Q : Type 0} → (ℕ → List (List ℕ) → Option (Order Q)) → List (List ℕ) → Option (Order Q)
by_dimensions order words = option_and_then (λ k. order k words) (dimensions_said (word 2 words))

-- of k dimensions the schemas, the target, and the sources from left to right
abbrev pub cube_order : ℕ → List (List ℕ) → Order Question
cube_order k words =
    and_then (schema_files (take k (drop 1 words))) (λ ss.
    and_then (at_word (tuple_word ss) (k + 3) words) (λ c.
    and_then (different_tuples ss (k + 4) words) (λ cs.
    Done (ByCube ss c cs))))

-- the schemas, the target, which is the last word, the instances in order, each with its laws, and then the facts
abbrev pub cubeview_order : ℕ → List (List ℕ) → Order Question
cubeview_order k words =
    and_then (schema_files (take k (drop 1 words))) (λ ss.
    and_then (at_word (tuple_word ss) (2 * k + 4) words) (λ c.
    and_then (legal_files ss (take k (drop (k + 1) words))) (λ is.
    and_then (cube_facts_file ss is (word (2 * k + 3) words)) (λ table.
    Told Yes (cube_view_text is (direct_view (tuples is) table c))))))

-- the order of the command of that name with these words, if there is one; there are no more sources than there may
-- be views
abbrev pub order_named : List ℕ → List (List ℕ) → Option (Order Question)
order_named name words =
    if bytes_eq name (codes "cube") then by_dimensions (λ k. between (k + 2) (k + most_views + 2) (cube_order k)) words
    else if bytes_eq name (codes "cubeview") then by_dimensions (λ k. exactly (2 * k + 3) (cubeview_order k)) words
    else None
