-- What is left of the order of `answer` once its schema is read, and its instance too.
--     answer_under    under a schema
--     answer_of       of a legal instance, after the target
use Rattle.std.specs.Prelude.{ℕ, List, codes}
use Rattle.olap_ast.specs.Schema.{Schema}
use Rattle.olap_base.specs.Instance.{Instance}
use Rattle.olap_order.specs.Order.{Order, Done, and_then}
use Rattle.olap_order.specs.Steps.{category_word}
use Rattle.olap_reading.specs.Steps.{legal_file, store_file}
use Rattle.olap_plans.specs.Questions.{Question, ByPlan}

-- the stored views
abbrev pub answer_of : Schema → Instance → (store : List ℕ) (target : ℕ) → Order Question
answer_of s i store c =
    and_then (store_file s i (codes "store") store) (λ views. Done (ByPlan s i views c))

-- the target, the instance and its laws, and then what is left
abbrev pub answer_under : Schema → (instance store target : List ℕ) → Order Question
answer_under s instance store target =
    and_then (category_word s.graph 5 target) (λ c.
    and_then (legal_file s (codes "instance") instance) (λ i. answer_of s i store c))
