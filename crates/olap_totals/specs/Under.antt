-- What is left of each order once its schema is read, or also its instance, or also what comes next.
--     rollup_under, check_under, store_under, breaks_under, change_under   under a schema
--     store_of, breaks_of   of an instance, after the categories
--     change_of      of a legal instance
--     change_by      of its stored views
use Rattle.std.specs.Prelude.{ℕ, List, [], ◌++◌, ◌-◌, ◌==◌, codes, if◌then◌else◌, length}
use Rattle.std.specs.Fmt.{decimal}
use Rattle.olap_base.specs.Instance.{Instance}
use Rattle.olap_base.specs.Views.{View, direct_view, direct_views, members}
use Rattle.olap_ast.specs.Schema.{Schema}
use Rattle.olap_delta.specs.Changes.{StepOr}
use Rattle.olap_view.specs.ViewText.{view_text}
use Rattle.olap_order.specs.Order.{Order, Told, and_then}
use Rattle.olap_order.specs.Outputs.{line}
use Rattle.olap_order.specs.Behind.{categories_from}
use Rattle.olap_order.specs.Steps.{category_word}
use Rattle.olap_reading.specs.Steps.{facts_file, legal_file, store_file}
use Rattle.olap_order.specs.declared.status.Status.{Status}
use Rattle.olap_order.specs.declared.status.Status.TheVariants.{No, Yes}
use Rattle.olap_totals.specs.Commands.{changed_file, store_told}
use Rattle.olap_breaks.specs.Breaks.{Break, breaks, breaks_text}
use Rattle.olap_totals.specs.Questions.{Question}

-- the category, the instance and its laws, and then the facts
abbrev pub rollup_under : Schema → (instance facts category : List ℕ) → Order Question
rollup_under s instance facts category =
    and_then (category_word s.graph 5 category) (λ c.
    and_then (legal_file s (codes "instance") instance) (λ i.
    and_then (facts_file s i (codes "facts") facts) (λ table.
    Told Yes (view_text i (direct_view (members i) table c)))))

-- the instance and its laws
abbrev pub check_under : Schema → (instance : List ℕ) → Order Question
check_under s instance =
    and_then (legal_file s (codes "instance") instance) (λ i.
    Told Yes (line (codes "legal " ++ decimal (length i - 1))))

-- the instance and its laws, and then the facts
abbrev pub store_of : Schema → (instance facts : List ℕ) (categories : List ℕ) → Order Question
store_of s instance facts cs =
    and_then (legal_file s (codes "instance") instance) (λ i.
    and_then (facts_file s i (codes "facts") facts) (λ table.
    store_told s.graph i (direct_views (members i) table cs)))

-- the categories from left to right, and then what is left of the order
abbrev pub store_under : Schema → (instance facts : List ℕ) (categories : List (List ℕ)) → Order Question
store_under s instance facts categories =
    and_then (categories_from (codes "DuplicateView") s.graph 5 [] categories) (λ cs. store_of s instance facts cs)

-- the answer is yes if there are none
abbrev pub breaks_status : List Break → Status
breaks_status found = if length found == 0 then Yes else No

-- of an instance, after the target and the sources
abbrev pub breaks_of : Schema → (instance : List ℕ) (target : ℕ) (sources : List ℕ) → Order Question
breaks_of s instance c cs =
    and_then (legal_file s (codes "instance") instance) (λ i.
    Told (breaks_status (breaks s.graph i c cs)) (breaks_text i (breaks s.graph i c cs)))

-- the target and the sources from left to right, and then what is left of the order
abbrev pub breaks_under : Schema → (instance target : List ℕ) (sources : List (List ℕ)) → Order Question
breaks_under s instance target sources =
    and_then (category_word s.graph 4 target) (λ c.
    and_then (categories_from (codes "DuplicateSource") s.graph 5 [] sources) (λ cs. breaks_of s instance c cs))

-- the facts, and the stored views after them
abbrev pub change_by : StepOr (List ℕ) → Schema → Instance → List (View ℕ ℕ) → (facts : List ℕ) → Order Question
change_by step s i views facts =
    and_then (changed_file step s i views facts) (λ changed. store_told s.graph i changed)

-- the stored views, and then what is left
abbrev pub change_of : StepOr (List ℕ) → Schema → Instance → (store facts : List ℕ) → Order Question
change_of step s i store facts =
    and_then (store_file s i (codes "store") store) (λ views. change_by step s i views facts)

-- the instance and its laws, and then what is left
abbrev pub change_under : StepOr (List ℕ) → Schema → (instance store facts : List ℕ) → Order Question
change_under step s instance store facts =
    and_then (legal_file s (codes "instance") instance) (λ i. change_of step s i store facts)
