-- What is left of each order once its schema is read.
use Rattle.std.specs.Prelude.{ℕ, List, [], codes}
use Rattle.olap_ast.specs.Schema.{Schema}
use Rattle.olap_order.specs.Order.{Order, Done, and_then}
use Rattle.olap_order.specs.Behind.{categories_from}
use Rattle.olap_order.specs.Steps.{category_word, formula_word, root_word}
use Rattle.olap_reasoning.specs.Questions.{Question, ByImplied}

-- the category
abbrev pub category_under : (Schema → ℕ → Question) → Schema → (category : List ℕ) → Order Question
category_under asked s category = and_then (category_word s.graph 3 category) (λ c. Done (asked s c))

-- the root, and the formula
abbrev pub implies_under : Schema → (root formula : List ℕ) → Order Question
implies_under s root formula =
    and_then (root_word s.graph 3 root) (λ r.
    and_then (formula_word s r 4 formula) (λ q.
    Done (ByImplied s r q)))

-- the target, and any number of sources from left to right
abbrev pub sources_under : (Schema → ℕ → List ℕ → Question) → Schema → (target : List ℕ) (sources : List (List ℕ))
    → Order Question
sources_under asked s target sources =
    and_then (category_word s.graph 3 target) (λ c.
    and_then (categories_from (codes "DuplicateSource") s.graph 4 [] sources) (λ cs.
    Done (asked s c cs)))
