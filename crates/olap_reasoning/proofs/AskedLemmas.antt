-- Each question that an order of this family comes to is about a valid schema, and a formula is one of it.
use Rattle.std.{proofs.Common.{ℕ, List, [], drop}, specs.Prelude.codes}
use Rattle.olap_ast.specs.{Schema.Schema, Valid.{IsQuestion, IsValidSchema}}
use Rattle.olap_base.specs.Graph.{IsDeclared}
use Rattle.olap_order.proofs.Coming.{Comes, MayCome, asked, may_at_least, may_either, may_exactly, no_order, pass, then_comes, told}
use Rattle.olap_order.proofs.ComingSteps.{formula_comes, root_declared, under_schema}
use Rattle.olap_order.specs.{Arguments.{at_least, exactly, word}, Behind.categories_from, Order.{Done, Told, and_then}}
use Rattle.olap_order.specs.{Steps.{category_word, formula_word, root_word}, declared.status.Status.TheVariants.Yes}
use Rattle.olap_proof.specs.declared.forms.Form.TheVariants.{Long, Short}
use Rattle.olap_reasoning.specs.Commands.{audit_order, category_order, format_order, implies_order, order_named, sources_order}
use Rattle.olap_reasoning.specs.Existing.{IsAsked}
use Rattle.olap_reasoning.specs.Questions.{Question, BySatisfiable, ByImplied, BySummarizable, ByProof, ByFrozen, ByAudit, ByNeeds, ByShapes}
use Rattle.olap_reasoning.specs.Under.{category_under, implies_under, sources_under}
use Rattle.olap_schema_text.specs.{Laws.{ReadQuestionsAreValid, ReadSchemasAreReadable}, Printing.schema_text}

module _ (readable : ReadSchemasAreReadable) (questions : ReadQuestionsAreValid) where
  of_format : (words : List (List ℕ)) → Comes IsAsked (format_order words)
  of_format words = under_schema readable IsAsked (codes "schema") (word 2 words) (λ s. Told Yes (schema_text s))
      (λ s v. told IsAsked Yes (schema_text s))

  of_category : (question : Schema → ℕ → Question)
      → ((s : Schema) (c : ℕ) → IsValidSchema s → IsAsked (question s c)) → (words : List (List ℕ))
      → Comes IsAsked (category_order question words)
  of_category question f words =
      under_schema readable IsAsked (codes "schema") (word 2 words) (λ s. category_under question s (word 3 words))
      (λ s v. pass IsAsked (category_word s.graph 3 (word 3 words)) (λ c. Done (question s c))
      (λ c. asked IsAsked (question s c) (f s c v.valid)))

  of_implies : (words : List (List ℕ)) → Comes IsAsked (implies_order words)
  of_implies words =
      let b = word 3 words in
      let c = word 4 words in
      under_schema readable IsAsked (codes "schema") (word 2 words) (λ s. implies_under s b c) (λ s v.
      then_comes (λ r. IsDeclared s.graph r) IsAsked (root_word s.graph 3 b)
      (λ r. and_then (formula_word s r 4 c) (λ q. Done (ByImplied s r q))) (root_declared s.graph 3 b) (λ r d.
      then_comes (λ q. IsQuestion s r q) IsAsked (formula_word s r 4 c) (λ q. Done (ByImplied s r q))
      (formula_comes questions s r 4 c v d) (λ q t. asked IsAsked (ByImplied s r q) (v.valid, t))))

  of_sources : (question : Schema → ℕ → List ℕ → Question)
      → ((s : Schema) (c : ℕ) (cs : List ℕ) → IsValidSchema s → IsAsked (question s c cs)) → (words : List (List ℕ))
      → Comes IsAsked (sources_order question words)
  of_sources question f words =
      let b = word 3 words in
      let more = drop 2 words in
      under_schema readable IsAsked (codes "schema") (word 2 words) (λ s. sources_under question s b more) (λ s v.
      pass IsAsked (category_word s.graph 3 b)
      (λ c. and_then (categories_from (codes "DuplicateSource") s.graph 4 [] more) (λ cs. Done (question s c cs))) (λ c.
      pass IsAsked (categories_from (codes "DuplicateSource") s.graph 4 [] more) (λ cs. Done (question s c cs)) (λ cs.
      asked IsAsked (question s c cs) (f s c cs v.valid))))

  of_audit : (words : List (List ℕ)) → Comes IsAsked (audit_order words)
  of_audit words = under_schema readable IsAsked (codes "schema") (word 2 words) (λ s. Done (ByAudit s)) (λ s v.
      asked IsAsked (ByAudit s) v.valid)

  -- of whatever words
  pub asked_named : (name : List ℕ) (words : List (List ℕ)) → MayCome IsAsked (order_named name words)
  asked_named name words =
      may_either IsAsked _ _ _ (may_exactly IsAsked 1 format_order words (of_format words))
      (may_either IsAsked _ _ _ (category BySatisfiable (λ s c v. v))
      (may_either IsAsked _ _ _ (may_exactly IsAsked 3 implies_order words (of_implies words))
      (may_either IsAsked _ _ _ (sources BySummarizable (λ s c cs v. v))
      (may_either IsAsked _ _ _ (sources (ByProof Long) (λ s c cs v. v))
      (may_either IsAsked _ _ _ (sources (ByProof Short) (λ s c cs v. v))
      (may_either IsAsked _ _ _ (sources ByNeeds (λ s c cs v. v))
      (may_either IsAsked _ _ _ (category ByFrozen (λ s c v. v))
      (may_either IsAsked _ _ _ (category ByShapes (λ s c v. v))
      (may_either IsAsked _ _ _ (may_exactly IsAsked 1 audit_order words (of_audit words)) (no_order IsAsked))))))))))
    where
      category : (question : Schema → ℕ → Question) → ((s : Schema) (c : ℕ) → IsValidSchema s → IsAsked (question s c))
          → MayCome IsAsked (exactly 2 (category_order question) words)
      category question f = may_exactly IsAsked 2 (category_order question) words (of_category question f words)

      sources : (question : Schema → ℕ → List ℕ → Question)
          → ((s : Schema) (c : ℕ) (cs : List ℕ) → IsValidSchema s → IsAsked (question s c cs))
          → MayCome IsAsked (at_least 2 (sources_order question) words)
      sources question f = may_at_least IsAsked 2 (sources_order question) words (of_sources question f words)
