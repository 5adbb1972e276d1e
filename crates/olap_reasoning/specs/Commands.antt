-- The order in which each command about a schema judges its file and words.
--     category_order, sources_order    of a question about a category; about a target and its sources
--     order_named                      the order of the command of that name with these words, if there is one
use Rattle.std.specs.Prelude.{ℕ, List, codes, if◌then◌else◌, Option, None}
use Rattle.std.specs.Str.{bytes_eq}
use Rattle.olap_ast.specs.Schema.{Schema}
use Rattle.olap_schema_text.specs.Printing.{schema_text}
use Rattle.olap_order.specs.Arguments.{at_least, at_word, exactly, word}
use Rattle.olap_order.specs.Order.{Order, Done, Told, and_then}
use Rattle.olap_order.specs.Steps.{category_word, different_words, formula_word, root_word, schema_file}
use Rattle.olap_order.specs.declared.status.Status.TheVariants.{Yes}
use Rattle.olap_proof.specs.declared.forms.Form.TheVariants.{Long, Short}
use Rattle.olap_reasoning.specs.Questions.{Question, BySatisfiable, ByImplied, BySummarizable, ByProof, ByNeeds, ByFrozen, ByShapes, ByAudit}

-- the schema alone
abbrev pub format_order : List (List ℕ) → Order Question
format_order words = and_then (schema_file (codes "schema") (word 2 words)) (λ s. Told Yes (schema_text s))

-- the schema, and the category
abbrev pub category_order : (Schema → ℕ → Question) → List (List ℕ) → Order Question
category_order asked words =
    and_then (schema_file (codes "schema") (word 2 words)) (λ s.
    and_then (at_word (category_word s.graph) 3 words) (λ c.
    Done (asked s c)))

-- the schema, the root, and the formula
abbrev pub implies_order : List (List ℕ) → Order Question
implies_order words =
    and_then (schema_file (codes "schema") (word 2 words)) (λ s.
    and_then (at_word (root_word s.graph) 3 words) (λ r.
    and_then (at_word (formula_word s r) 4 words) (λ q.
    Done (ByImplied s r q))))

-- the schema, the target, and any number of sources from left to right
abbrev pub sources_order : (Schema → ℕ → List ℕ → Question) → List (List ℕ) → Order Question
sources_order asked words =
    and_then (schema_file (codes "schema") (word 2 words)) (λ s.
    and_then (at_word (category_word s.graph) 3 words) (λ c.
    and_then (different_words (codes "DuplicateSource") s.graph 4 words) (λ cs.
    Done (asked s c cs))))

-- the schema alone
abbrev pub audit_order : List (List ℕ) → Order Question
audit_order words = and_then (schema_file (codes "schema") (word 2 words)) (λ s. Done (ByAudit s))

-- the order of the command of that name with these words, if there is one
abbrev pub order_named : List ℕ → List (List ℕ) → Option (Order Question)
order_named name words =
    if bytes_eq name (codes "format") then exactly 1 format_order words
    else if bytes_eq name (codes "satisfiable") then exactly 2 (category_order BySatisfiable) words
    else if bytes_eq name (codes "implies") then exactly 3 implies_order words
    else if bytes_eq name (codes "summarizable") then at_least 2 (sources_order BySummarizable) words
    else if bytes_eq name (codes "prove") then at_least 2 (sources_order (ByProof Long)) words
    else if bytes_eq name (codes "prove-short") then at_least 2 (sources_order (ByProof Short)) words
    else if bytes_eq name (codes "needs") then at_least 2 (sources_order ByNeeds) words
    else if bytes_eq name (codes "frozen") then exactly 2 (category_order ByFrozen) words
    else if bytes_eq name (codes "shapes") then exactly 2 (category_order ByShapes) words
    else if bytes_eq name (codes "audit") then exactly 1 audit_order words
    else None
