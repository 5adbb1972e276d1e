-- The order in which each command that is answered by a plan judges its files and words.
--     order_named    the order of the command of that name with these words, if there is one
use Rattle.std.specs.Prelude.{ℕ, List, codes, if◌then◌else◌, Option, None}
use Rattle.std.specs.Str.{bytes_eq}
use Rattle.olap_order.specs.Arguments.{at_word, exactly, word}
use Rattle.olap_order.specs.Order.{Order, Done, and_then}
use Rattle.olap_order.specs.Steps.{category_word, number_word, schema_file}
use Rattle.olap_reading.specs.Steps.{legal_file, store_file}
use Rattle.olap_plans.specs.Numbers.{number_of, size_of}
use Rattle.olap_plans.specs.Questions.{Question, ByPlan, ByGenerated}

-- the schema, the target, the instance and its laws, and then the stored views
abbrev pub answer_order : List (List ℕ) → Order Question
answer_order words =
    and_then (schema_file (codes "schema") (word 2 words)) (λ s.
    and_then (at_word (category_word s.graph) 5 words) (λ c.
    and_then (legal_file s (codes "instance") (word 3 words)) (λ i.
    and_then (store_file s i (codes "store") (word 4 words)) (λ views.
    Done (ByPlan s i views c)))))

-- the seed, and the size; no file
abbrev pub generate_order : List (List ℕ) → Order Question
generate_order words =
    and_then (at_word (number_word number_of) 2 words) (λ seed.
    and_then (at_word (number_word size_of) 3 words) (λ size.
    Done (ByGenerated seed size)))

-- the order of the command of that name with these words, if there is one
abbrev pub order_named : List ℕ → List (List ℕ) → Option (Order Question)
order_named name words =
    if bytes_eq name (codes "answer") then exactly 4 answer_order words
    else if bytes_eq name (codes "generate") then exactly 2 generate_order words
    else None
