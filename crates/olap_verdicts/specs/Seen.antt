-- The commands of the code, as the orders of the words that they hold.
--     verify_under    what is left of the order of `verify` after the schema
--     seen            the order of a command
use Rattle.std.specs.Prelude.{ℕ, List, [], ◌∷◌, codes}
use Rattle.olap_ast.specs.Schema.{Schema}
use Rattle.olap_base.specs.Limits.{most_certificate_bytes}
use Rattle.olap_order.specs.Behind.{categories_from}
use Rattle.olap_order.specs.Order.{Order, Done, and_then}
use Rattle.olap_order.specs.Steps.{category_word, text_file}
use Rattle.olap_order.specs.Words.{texts}
use Rattle.olap_proof.specs.declared.forms.Form.{Form}
use Rattle.olap_verdicts.specs.Commands.{verify_order}
use Rattle.olap_verdicts.specs.Questions.{ByCertificate, Question}
use Rattle.olap_verdicts.specs.declared.words.Command.{Command}
use Rattle.olap_verdicts.specs.declared.words.Command.TheVariants as code

-- the target, any number of sources from left to right, and then the certificate
abbrev pub verify_under : Form → Schema → (certificate target : List ℕ) (sources : List (List ℕ)) → Order Question
verify_under form s certificate target sources =
    and_then (category_word s.graph 4 target) (λ c.
    and_then (categories_from (codes "DuplicateSource") s.graph 5 [] sources) (λ cs.
    and_then (text_file (codes "certificate") most_certificate_bytes certificate) (λ text.
    Done (ByCertificate form s c cs text))))

-- the order of a command
abbrev pub seen : Command → Order Question
seen (code.Verify form schema certificate target sources) =
    verify_order form (schema.now ∷ certificate.now ∷ target.now ∷ texts sources.now)
