-- Each question that an order of this family comes to is about a valid schema.
use Rattle.std.{proofs.Common.{ℕ, List, [], None, drop}, specs.Prelude.{codes, if◌then◌else◌}, specs.Str.bytes_eq}
use Rattle.olap_base.specs.Limits.{most_certificate_bytes}
use Rattle.olap_order.proofs.Coming.{Comes, MayCome, asked, may_at_least, may_either, no_order, pass}
use Rattle.olap_order.{proofs.ComingSteps.under_schema, specs.Arguments.{at_least, word}, specs.Behind.categories_from}
use Rattle.olap_order.specs.{Order.{Done, and_then}, Steps.{category_word, text_file}}
use Rattle.olap_proof.specs.declared.forms.Form.{Form, TheVariants.{Long, Short}}
use Rattle.olap_schema_text.specs.Laws.{ReadSchemasAreReadable}
use Rattle.olap_verdicts.specs.{Commands.{order_named, verify_order}, Laws.IsAsked, Questions.ByCertificate}
use Rattle.olap_verdicts.specs.Seen.{verify_under}

module _ (readable : ReadSchemasAreReadable) where
  -- so it is along the order of a command
  verify_comes : (f : Form) (words : List (List ℕ)) → Comes IsAsked (verify_order f words)
  verify_comes f words =
      let certificate = word 3 words in
      let target = word 4 words in
      let sources = drop 3 words in
      under_schema readable IsAsked (codes "schema") (word 2 words) (λ s. verify_under f s certificate target sources)
      (λ s v. pass IsAsked (category_word s.graph 4 target) (λ c.
      and_then (categories_from (codes "DuplicateSource") s.graph 5 [] sources) (λ cs.
      and_then (text_file (codes "certificate") most_certificate_bytes certificate) (λ text.
      Done (ByCertificate f s c cs text)))) (λ c.
      pass IsAsked (categories_from (codes "DuplicateSource") s.graph 5 [] sources) (λ cs.
      and_then (text_file (codes "certificate") most_certificate_bytes certificate) (λ text.
      Done (ByCertificate f s c cs text))) (λ cs.
      pass IsAsked (text_file (codes "certificate") most_certificate_bytes certificate) (λ text.
      Done (ByCertificate f s c cs text)) (λ text.
      asked IsAsked (ByCertificate f s c cs text) v.valid))))

  -- and of whatever words
  pub asked_named : (name : List ℕ) (words : List (List ℕ)) → MayCome IsAsked (order_named name words)
  asked_named name words = may_either IsAsked (bytes_eq name (codes "verify"))
      (at_least 3 (verify_order Long) words)
      (if bytes_eq name (codes "verify-short") then at_least 3 (verify_order Short) words else None)
      (may_at_least IsAsked 3 (verify_order Long) words (verify_comes Long words))
      (may_either IsAsked (bytes_eq name (codes "verify-short")) (at_least 3 (verify_order Short) words) None
      (may_at_least IsAsked 3 (verify_order Short) words (verify_comes Short words)) (no_order IsAsked))
