-- The steps of an order that all commands share: what a run takes a word or a file for, or why it refuses it.
--     category_word, root_word          the category that a word names; the same, and not `All`
--     number_word, formula_word         the number that a word spells; the formula that it is
--     in_turn, another                  a step over one word or file after the other; things that differ
--     different_words                   categories that differ
--     text_file, schema_file            what stands in a file
--     fault_text                        where a fault is, and its name
use Rattle.std.specs.Prelude.{ℕ, suc, ◌-◌, Bool, List, [], ◌∷◌, ◌++◌, ◌==◌, length, drop, nat_lt, codes, Option, Result, Ok, Err, if◌then◌else◌}
use Rattle.std.specs.Fmt.{decimal}
use Rattle.std.specs.List.{list_any}
use Rattle.olap_base.specs.Graph.{Graph}
use Rattle.olap_base.specs.Limits.{most_schema_bytes}
use Rattle.olap_base.specs.declared.refusals.Fault.{Fault}
use Rattle.olap_ast.specs.Formula.{Formula}
use Rattle.olap_ast.specs.Schema.{Schema}
use Rattle.olap_graph.specs.Lookups.{category_named}
use Rattle.olap_schema_text.specs.Judging.{question_read, schema_read}
use Rattle.olap_order.specs.Order.{Order, Done, Read, and_then, ok_or, refused}

-- where a fault is, by its number there, and the name of the fault
abbrev pub fault_text : List ℕ → ℕ → List ℕ → List ℕ
fault_text place at name = place ++ (codes " " ++ (decimal at ++ (codes " " ++ name)))

-- ---- words, by their numbers on the command line

-- the category that a word names
abbrev pub category_word : Graph → ℕ → List ℕ → Order ℕ
category_word g at name = ok_or (category_named g name) (fault_text (codes "word") at (codes "UnknownCategory"))

-- a category that may be a root: `All` is refused
abbrev pub root_word : Graph → ℕ → List ℕ → Order ℕ
root_word g at name = and_then (category_word g at name) (λ c.
    if c == 0 then refused (fault_text (codes "word") at (codes "RootIsAll")) else Done c)

-- the number that a word spells, if it spells one within the limits
abbrev pub number_word : (List ℕ → Option ℕ) → ℕ → List ℕ → Order ℕ
number_word spelled at word = ok_or (spelled word) (fault_text (codes "word") at (codes "BadNumber"))

-- a formula, or its first fault
abbrev pub formula_or_fault : ℕ → Result Formula (List ℕ) → Order Formula
formula_or_fault at (Ok f) = Done f
formula_or_fault at (Err name) = refused (fault_text (codes "word") at name)

-- the formula of a question, at its root
abbrev pub formula_word : Schema → ℕ → ℕ → List ℕ → Order Formula
formula_word s root at text = formula_or_fault at (question_read s root text)

-- ---- several words or files, the first of which has this number

-- the earlier values and the value of each of these, one after the other
abbrev pub in_turn : {A T : Type 0} → (ℕ → List T → A → Order T) → ℕ → List T → List A → Order (List T)
in_turn step at earlier [] = Done earlier
in_turn step at earlier (x ∷ xs) = and_then (step at earlier x) (λ y. in_turn step (suc at) (earlier ++ y ∷ []) xs)

-- the value of a word, if it isn't among the earlier values; else the fault with the name `twice`
abbrev pub another : {T : Type 0} → (T → T → Bool) → List ℕ → (ℕ → List ℕ → Order T) → ℕ → List T → List ℕ → Order T
another same twice step at earlier word = and_then (step at word) (λ x.
    if list_any (λ y. same y x) earlier then refused (fault_text (codes "word") at twice) else Done x)

-- different categories from the word of this number on
abbrev pub different_words : List ℕ → Graph → ℕ → List (List ℕ) → Order (List ℕ)
different_words twice g at words = in_turn (another (λ d c. d == c) twice (category_word g)) at [] (drop (at - 2) words)

-- ---- files, each under its label

-- the text of a file, which has no more bytes than that
abbrev pub text_file : List ℕ → ℕ → List ℕ → Order (List ℕ)
text_file label most file = Read file (λ text.
    if nat_lt most (length text) then refused (label ++ codes " TooLong") else Done text)

-- what a text stands for, or its first fault
abbrev pub meaning_or_fault : {T : Type 0} → List ℕ → List ℕ → Result T (Fault (List ℕ)) → Order T
meaning_or_fault label part (Ok x) = Done x
meaning_or_fault label part (Err f) = refused (label ++ (codes " " ++ fault_text part f.at f.kind))

-- the schema in a file
abbrev pub schema_file : List ℕ → List ℕ → Order Schema
schema_file label file = and_then (text_file label most_schema_bytes file) (λ text.
    meaning_or_fault label (codes "line") (schema_read text))
