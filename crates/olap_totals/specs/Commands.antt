-- The order in which each command over an instance judges its files and words. Their answers are functions of what was
-- read, so each order ends in its output.
--     store_told     the text of stored views
--     order_named    the order of the command of that name with these words, if there is one
use Rattle.std.specs.Prelude.{ℕ, List, ◌++◌, ◌+◌, ◌-◌, ◌==◌, length, codes, if◌then◌else◌, nat_lt, Option, None}
use Rattle.std.specs.Fmt.{decimal}
use Rattle.std.specs.Str.{bytes_eq}
use Rattle.olap_base.specs.Graph.{Graph}
use Rattle.olap_base.specs.Limits.{most_store_bytes, most_views}
use Rattle.olap_base.specs.Instance.{Instance}
use Rattle.olap_base.specs.Views.{View, direct_view, direct_views, members}
use Rattle.olap_ast.specs.Schema.{Schema}
use Rattle.olap_breaks.specs.Breaks.{breaks, breaks_text}
use Rattle.olap_delta.specs.Changes.{StepOr, append, retract, store_after}
use Rattle.olap_view.specs.StoreText.{store_text}
use Rattle.olap_view.specs.ViewText.{view_text}
use Rattle.olap_order.specs.Arguments.{at_least, at_word, between, exactly, word}
use Rattle.olap_order.specs.Order.{Order, Told, and_then, refused}
use Rattle.olap_order.specs.Outputs.{line}
use Rattle.olap_order.specs.Steps.{category_word, different_words, meaning_or_fault, schema_file}
use Rattle.olap_reading.specs.Steps.{facts_file, legal_file, store_file}
use Rattle.olap_order.specs.declared.status.Status.TheVariants.{No, Yes}
use Rattle.olap_totals.specs.Questions.{Question}

-- the schema, the category, the instance and its laws, and then the facts
abbrev pub rollup_order : List (List ℕ) → Order Question
rollup_order words =
    and_then (schema_file (codes "schema") (word 2 words)) (λ s.
    and_then (at_word (category_word s.graph) 5 words) (λ c.
    and_then (legal_file s (codes "instance") (word 3 words)) (λ i.
    and_then (facts_file s i (codes "facts") (word 4 words)) (λ table.
    Told Yes (view_text i (direct_view (members i) table c))))))

-- the schema, the instance and its laws
abbrev pub check_order : List (List ℕ) → Order Question
check_order words =
    and_then (schema_file (codes "schema") (word 2 words)) (λ s.
    and_then (legal_file s (codes "instance") (word 3 words)) (λ i.
    Told Yes (line (codes "legal " ++ decimal (length i - 1)))))

-- the text of stored views, if it isn't longer than a file of them may be
abbrev pub store_told : Graph → Instance → List (View ℕ ℕ) → Order Question
store_told g i views =
    if nat_lt most_store_bytes (length (store_text g i views)) then refused (codes "store TooLong")
    else Told Yes (store_text g i views)

-- the schema, the categories from left to right, the instance and its laws, and then the facts
abbrev pub store_order : List (List ℕ) → Order Question
store_order words =
    and_then (schema_file (codes "schema") (word 2 words)) (λ s.
    and_then (different_words (codes "DuplicateView") s.graph 5 words) (λ cs.
    and_then (legal_file s (codes "instance") (word 3 words)) (λ i.
    and_then (facts_file s i (codes "facts") (word 4 words)) (λ table.
    store_told s.graph i (direct_views (members i) table cs)))))

-- the stored views after the facts in a file, in order, of which the first is record 2
abbrev pub changed_file : StepOr (List ℕ) → Schema → Instance → List (View ℕ ℕ) → (facts : List ℕ)
    → Order (List (View ℕ ℕ))
changed_file step s i views facts = and_then (facts_file s i (codes "facts") facts) (λ table.
    meaning_or_fault (codes "facts") (codes "record") (store_after step i 2 views table))

-- the schema, the instance and its laws, the stored views, the facts, and then each fact at the views
abbrev pub change_order : StepOr (List ℕ) → List (List ℕ) → Order Question
change_order step words =
    and_then (schema_file (codes "schema") (word 2 words)) (λ s.
    and_then (legal_file s (codes "instance") (word 3 words)) (λ i.
    and_then (store_file s i (codes "store") (word 4 words)) (λ views.
    and_then (changed_file step s i views (word 5 words)) (λ changed.
    store_told s.graph i changed))))

-- the schema, the target, the sources from left to right, the instance and its laws; yes if none is found
abbrev pub breaks_order : List (List ℕ) → Order Question
breaks_order words =
    and_then (schema_file (codes "schema") (word 2 words)) (λ s.
    and_then (at_word (category_word s.graph) 4 words) (λ c.
    and_then (different_words (codes "DuplicateSource") s.graph 5 words) (λ cs.
    and_then (legal_file s (codes "instance") (word 3 words)) (λ i. let found = breaks s.graph i c cs in
    Told (if length found == 0 then Yes else No) (breaks_text i found)))))

-- the order of the command of that name with these words, if there is one; there is one stored view or more
abbrev pub order_named : List ℕ → List (List ℕ) → Option (Order Question)
order_named name words =
    if bytes_eq name (codes "rollup") then exactly 4 rollup_order words
    else if bytes_eq name (codes "check") then exactly 2 check_order words
    else if bytes_eq name (codes "store") then between 4 (most_views + 3) store_order words
    else if bytes_eq name (codes "breaks") then at_least 3 breaks_order words
    else if bytes_eq name (codes "append") then exactly 4 (change_order append) words
    else if bytes_eq name (codes "retract") then exactly 4 (change_order retract) words
    else None
