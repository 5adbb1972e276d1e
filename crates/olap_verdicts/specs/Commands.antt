-- The order in which each command about a certificate judges its files and words.
--     verify_order        of `verify` and `verify-short`
--     order_named         the order of the command of that name with these words, if there is one
use Rattle.std.specs.Prelude.{ℕ, List, codes, if◌then◌else◌, Option, None}
use Rattle.std.specs.Str.{bytes_eq}
use Rattle.olap_base.specs.Limits.{most_certificate_bytes}
use Rattle.olap_order.specs.Arguments.{at_least, at_word, word}
use Rattle.olap_order.specs.Order.{Order, Done, and_then}
use Rattle.olap_order.specs.Steps.{category_word, different_words, schema_file, text_file}
use Rattle.olap_proof.specs.declared.forms.Form.{Form}
use Rattle.olap_proof.specs.declared.forms.Form.TheVariants.{Long, Short}
use Rattle.olap_verdicts.specs.Questions.{Question, ByCertificate}

-- the schema, the target, any number of sources from left to right, and then the certificate
abbrev pub verify_order : Form → List (List ℕ) → Order Question
verify_order form words =
    and_then (schema_file (codes "schema") (word 2 words)) (λ s.
    and_then (at_word (category_word s.graph) 4 words) (λ c.
    and_then (different_words (codes "DuplicateSource") s.graph 5 words) (λ cs.
    and_then (text_file (codes "certificate") most_certificate_bytes (word 3 words)) (λ text.
    Done (ByCertificate form s c cs text)))))

-- the order of the command of that name with these words, if there is one
abbrev pub order_named : List ℕ → List (List ℕ) → Option (Order Question)
order_named name words =
    if bytes_eq name (codes "verify") then at_least 3 (verify_order Long) words
    else if bytes_eq name (codes "verify-short") then at_least 3 (verify_order Short) words
    else None
