-- The steps of an order that read an instance and what stands over it.
--     legal_file    a legal instance
--     facts_file    facts at its members
--     store_file    stored views of it
use Rattle.std.specs.Prelude.{List, ℕ, ◌++◌, codes, Option, None, Some}
use Rattle.olap_base.specs.Instance.{Instance}
use Rattle.olap_base.specs.Limits.{most_facts, most_instance_bytes, most_store_bytes}
use Rattle.olap_base.specs.Views.{Fact, View}
use Rattle.olap_ast.specs.Schema.{Schema}
use Rattle.olap_ast.specs.Violation.{Violation}
use Rattle.olap_records.specs.Records.{records_of}
use Rattle.olap_instance.specs.InstanceMeaning.{instance_meant}
use Rattle.olap_facts.specs.FactMeaning.{facts_meant}
use Rattle.olap_view.specs.StoreMeaning.{store_meant}
use Rattle.olap_check.specs.FirstViolation.{first_violation}
use Rattle.olap_order.specs.Order.{Order, Done, Read, and_then, refused}
use Rattle.olap_order.specs.Steps.{meaning_or_fault, text_file}
use Rattle.olap_reading.specs.Violations.{violation_text}

-- an instance without a violation, or its first violation
abbrev pub legal_or_violation : List ℕ → Schema → Instance → Option Violation → Order Instance
legal_or_violation label s i None = Done i
legal_or_violation label s i (Some v) = refused (label ++ (codes " " ++ violation_text s.graph i v))

-- the legal instance of a schema in a file
abbrev pub legal_file : Schema → List ℕ → List ℕ → Order Instance
legal_file s label file =
    and_then (text_file label most_instance_bytes file) (λ text.
    and_then (meaning_or_fault label (codes "record") (instance_meant s.graph (records_of text))) (λ i.
    legal_or_violation label s i (first_violation s i)))

-- the facts at an instance's members in a file of any length
abbrev pub facts_file : Schema → Instance → List ℕ → List ℕ → Order (List (Fact ℕ))
facts_file s i label file = Read file (λ text.
    meaning_or_fault label (codes "record") (facts_meant most_facts s.graph i (records_of text)))

-- the stored views of an instance in a file
abbrev pub store_file : Schema → Instance → List ℕ → List ℕ → Order (List (View ℕ ℕ))
store_file s i label file = and_then (text_file label most_store_bytes file) (λ text.
    meaning_or_fault label (codes "record") (store_meant s.graph i (records_of text)))
