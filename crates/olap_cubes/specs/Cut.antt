-- The words of a command over several dimensions, cut as the code takes them, and the files and tuples from one of them
-- on.
--     schema_files_from, legal_files_from       of this dimension and those after it, added to those that were read
--     categories_named                          the categories of names
--     another_tuple, different_tuples_from      tuples that differ from one another and from the earlier ones
--     cube_of, cubeview_of                      the orders by their files and words
--     by_count, by_target, cube_by, cubeview_by, cut_named    and by the words that are left
use Rattle.std.specs.Prelude.{ℕ, nat_eq, nat_le, ◌+◌, ◌*◌, List, [], ◌∷◌, codes, drop, length, take, zip, if◌then◌else◌, Option, None, Some, option_and_then, option_map}
use Rattle.std.specs.Cmp.Lexicographic.{pointwise}
use Rattle.std.specs.Str.{bytes_eq}
use Rattle.olap_base.specs.Instance.{Instance}
use Rattle.olap_base.specs.Limits.{most_views}
use Rattle.olap_ast.specs.Schema.{Schema}
use Rattle.olap_base.specs.Views.{direct_view}
use Rattle.olap_cube.specs.CubeViews.{tuples}
use Rattle.olap_cube_views.specs.CubeViewText.{cube_view_text}
use Rattle.olap_graph.specs.Lookups.{category_named}
use Rattle.olap_order.specs.Behind.{by_two}
use Rattle.olap_order.specs.Order.{Order, Done, Told, and_then}
use Rattle.olap_order.specs.Steps.{another, in_turn, schema_file}
use Rattle.olap_order.specs.declared.status.Status.TheVariants.{Yes}
use Rattle.olap_reading.specs.Steps.{legal_file}
use Rattle.olap_cubes.specs.Commands.{dimensions_said}
use Rattle.olap_cubes.specs.Questions.{Question, ByCube}
use Rattle.olap_cubes.specs.Steps.{cube_facts_file, numbered, tuple_word}

-- ---- files

-- the schemas in files, from this dimension on, after those of the dimensions before it
abbrev pub schema_files_from : ℕ → List Schema → List (List ℕ) → Order (List Schema)
schema_files_from dimension earlier files =
    in_turn (λ k read file. schema_file (numbered (codes "schema") k) file) dimension earlier files

-- the legal instances of these schemas in files, from this dimension on, after those of the dimensions before it
abbrev pub legal_files_from : ℕ → List Instance → List Schema → List (List ℕ) → Order (List Instance)
legal_files_from dimension earlier schemas files =
    in_turn (λ k read p. legal_file p.0 (numbered (codes "instance") k) p.1) dimension earlier (zip schemas files)

-- ---- words

-- the categories of these names, one of each dimension, if all are known
abbrev pub categories_named : List Schema → List (List ℕ) → Option (List ℕ)
categories_named (s ∷ schemas) (name ∷ names) =
    option_and_then (λ c. option_map (λ cs. c ∷ cs) (categories_named schemas names)) (category_named s.graph name)
categories_named schemas names = Some []

-- a tuple that is none of those before it
abbrev pub another_tuple : List Schema → ℕ → List (List ℕ) → List ℕ → Order (List ℕ)
another_tuple schemas = another (pointwise nat_eq) (codes "DuplicateSource") (tuple_word schemas)

-- different tuples from this word on, left to right, after these
abbrev pub different_tuples_from : List Schema → ℕ → List (List ℕ) → List (List ℕ) → Order (List (List ℕ))
different_tuples_from schemas = in_turn (another_tuple schemas)

-- ---- orders

-- the schemas, the target, and the sources from left to right
abbrev pub cube_of : (schemas : List (List ℕ)) (target : List ℕ) (sources : List (List ℕ)) → Order Question
cube_of schemas target sources =
    and_then (schema_files_from 1 [] schemas) (λ ss.
    and_then (tuple_word ss (length schemas + 3) target) (λ c.
    and_then (different_tuples_from ss (length schemas + 4) [] sources) (λ cs.
    Done (ByCube ss c cs))))

-- the schemas, the target, the instances in order, each with its laws, and then the facts
abbrev pub cubeview_of : (schemas instances : List (List ℕ)) (facts target : List ℕ) → Order Question
cubeview_of schemas instances facts target =
    and_then (schema_files_from 1 [] schemas) (λ ss.
    and_then (tuple_word ss (2 * length schemas + 4) target) (λ c.
    and_then (legal_files_from 1 [] ss instances) (λ is.
    and_then (cube_facts_file ss is facts) (λ table.
    Told Yes (cube_view_text is (direct_view (tuples is) table c))))))

-- an order for the number of dimensions that the first word says, and the words after it
abbrev pub by_count : {Q : Type 0} → (ℕ → List (List ℕ) → Option (Order Q)) → List (List ℕ) → Option (Order Q)
by_count order [] = None
by_count order (word ∷ words) = option_and_then (λ k. order k words) (dimensions_said word)

-- an order for a target and its sources, if there are no more sources than a command may have
abbrev pub by_target : {Q : Type 0} → (List ℕ → List (List ℕ) → Order Q) → List (List ℕ) → Option (Order Q)
by_target order [] = None
by_target order (target ∷ sources) =
    if nat_le (length sources) most_views then Some (order target sources) else None

-- as many schemas as there are dimensions, a target, and sources
abbrev pub cube_by : ℕ → List (List ℕ) → Option (Order Question)
cube_by k words = by_target (cube_of (take k words)) (drop k words)

-- as many schemas as there are dimensions, as many instances, a file of facts, and a target
abbrev pub cubeview_by : ℕ → List (List ℕ) → Option (Order Question)
cubeview_by k words = by_two (cubeview_of (take k words) (take k (drop k words))) (drop k (drop k words))

-- the order of the command of that name with these words, if there is one
abbrev pub cut_named : List ℕ → List (List ℕ) → Option (Order Question)
cut_named name words =
    if bytes_eq name (codes "cube") then by_count cube_by words
    else if bytes_eq name (codes "cubeview") then by_count cubeview_by words
    else None
