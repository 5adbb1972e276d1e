-- The steps of a run over several dimensions: a schema and an instance of each, facts at tuples of members, and tuples
-- of categories. Dimensions are counted from 1.
--     schema_files       the schemas of all dimensions
--     legal_files        a legal instance of each
--     cube_facts_file    facts at members of those
--     tuple_word         a tuple of categories, one of each dimension
--     different_tuples   tuples that differ
use Rattle.std.specs.Prelude.{ℕ, ◌-◌, List, [], ◌++◌, ◌==◌, drop, length, codes, if◌then◌else◌, nat_eq, zip}
use Rattle.std.specs.Fmt.{decimal}
use Rattle.std.specs.Cmp.Lexicographic.{pointwise}
use Rattle.olap_base.specs.Bytes.{comma}
use Rattle.olap_base.specs.Instance.{Instance}
use Rattle.olap_base.specs.Limits.{most_facts}
use Rattle.olap_ast.specs.Schema.{Schema}
use Rattle.olap_grammar.specs.Words.{pieces_of}
use Rattle.olap_records.specs.Records.{records_of}
use Rattle.olap_base.specs.Views.{Fact}
use Rattle.olap_cube.specs.CubeSummarizable.{graphs_of}
use Rattle.olap_cube_views.specs.CubeFactMeaning.{cube_facts_meant}
use Rattle.olap_order.specs.Order.{Order, Read, refused}
use Rattle.olap_order.specs.Steps.{another, category_word, fault_text, in_turn, meaning_or_fault, schema_file}
use Rattle.olap_reading.specs.Steps.{legal_file}

-- ---- files, one of each dimension

-- the label of the file of that dimension
abbrev pub numbered : List ℕ → ℕ → List ℕ
numbered label dimension = label ++ (codes " " ++ decimal dimension)

-- the schemas in files
abbrev pub schema_files : List (List ℕ) → Order (List Schema)
schema_files files = in_turn (λ k earlier file. schema_file (numbered (codes "schema") k) file) 1 [] files

-- the legal instances of these schemas in files
abbrev pub legal_files : List Schema → List (List ℕ) → Order (List Instance)
legal_files schemas files =
    in_turn (λ k earlier p. legal_file p.0 (numbered (codes "instance") k) p.1) 1 [] (zip schemas files)

-- the facts at tuples of these instances' members in a file of any length
abbrev pub cube_facts_file : List Schema → List Instance → List ℕ → Order (List (Fact (List ℕ)))
cube_facts_file schemas is file = Read file (λ text.
    meaning_or_fault (codes "facts") (codes "record")
    (cube_facts_meant most_facts (graphs_of schemas) is (records_of text)))

-- ---- words

-- the tuple of categories, one of each dimension, whose names a word joins by commas
abbrev pub tuple_word : List Schema → ℕ → List ℕ → Order (List ℕ)
tuple_word schemas at word =
    if length (pieces_of comma word) == length schemas
    then in_turn (λ k earlier p. category_word p.0.graph at p.1) 1 [] (zip schemas (pieces_of comma word))
    else refused (fault_text (codes "word") at (codes "BadForm"))

-- different tuples from the word of this number on
abbrev pub different_tuples : List Schema → ℕ → List (List ℕ) → Order (List (List ℕ))
different_tuples schemas at words =
    in_turn (another (pointwise nat_eq) (codes "DuplicateSource") (tuple_word schemas)) at [] (drop (at - 2) words)
