-- What the shared steps come to.
use Rattle.std.proofs.Common.{◌≡◌, ℕ, Bool, List, Some, true, false, cond, refl, arith}
use Rattle.std.specs.{Prelude.{◌==◌, codes, Result, Ok, Err}, Str.bytes_eq}
use Rattle.olap_ast.specs.{Formula.Formula, Schema.Schema, Valid.IsQuestion}
use Rattle.olap_base.{proofs.GeneralLemmas.not_zero, specs.Graph.{Graph, IsCategory, IsDeclared}}
use Rattle.olap_base.specs.Limits.{most_schema_bytes}
use Rattle.olap_graph.{proofs.PlaceLemmas.found, specs.Lookups.{category_named, names_of}}
use Rattle.olap_order.proofs.Coming.{Comes, anything, asked, meant, then_comes, there, told}
use Rattle.olap_order.specs.{Order.{Done, Order, and_then, refused}, Outputs.refusal}
use Rattle.olap_order.specs.Steps.{category_word, fault_text, formula_or_fault, formula_word, meaning_or_fault, root_word, schema_file, text_file}
use Rattle.olap_order.specs.declared.status.Status.TheVariants.{Refused}
use Rattle.olap_schema.specs.Readable.{IsReadable}
use Rattle.olap_schema_text.specs.Judging.{question_read, schema_read}
use Rattle.olap_schema_text.specs.Laws.{ReadQuestionsAreValid, ReadSchemasAreReadable}

-- the category of a name is one of the graph
named_category : (g : Graph) (name : List ℕ) (c : ℕ) → category_named g name ≡ Some c → IsCategory g c
named_category g name c e =
    let t = found (bytes_eq name) (λ x. bytes_eq name x ≡ true) (λ x. (λ e. e, λ e. e)) (names_of g) 0 c e in
    let l = t.2 in omega (arith, t.1, l)

-- a root is declared
pub root_declared : (g : Graph) (at : ℕ) (name : List ℕ) → Comes (λ c. IsDeclared g c) (root_word g at name)
root_declared g at name =
    then_comes (λ c. IsCategory g c) (λ c. IsDeclared g c) (category_word g at name)
    (λ c. cond (c == 0) (refused (fault_text (codes "word") at (codes "RootIsAll"))) (Done c))
    (there (λ c. IsCategory g c) (category_named g name) (fault_text (codes "word") at (codes "UnknownCategory"))
    (λ c e. named_category g name c e)) (λ c h. declared c h (c == 0) refl)
  where
    declared : (c : ℕ) → IsCategory g c → (b : Bool) → (c == 0) ≡ b → Comes (λ c. IsDeclared g c)
        (cond b (refused (fault_text (codes "word") at (codes "RootIsAll"))) (Done c))
    declared c h true e = told (λ c. IsDeclared g c) Refused
        (refusal (fault_text (codes "word") at (codes "RootIsAll")))
    declared c h false e = asked (λ c. IsDeclared g c) c (not_zero c e, h)

module _ (readable : ReadSchemasAreReadable) where
  -- a schema that is read is readable, and so valid
  pub schema_comes : (label file : List ℕ) → Comes IsReadable (schema_file label file)
  schema_comes label file =
      then_comes (λ x. Unit {0}) IsReadable (text_file label most_schema_bytes file)
      (λ text. meaning_or_fault label (codes "line") (schema_read text))
      (anything (text_file label most_schema_bytes file))
      (λ text u. meant IsReadable label (codes "line") (schema_read text) (λ s e. readable text s e))

  -- so what is left after it may take it for one
  pub under_schema : {Q : Type 0} (P : Q → Type 0) (label file : List ℕ) (next : Schema → Order Q)
      → ((s : Schema) → IsReadable s → Comes P (next s)) → Comes P (and_then (schema_file label file) next)
  under_schema P label file next f = then_comes IsReadable P (schema_file label file) next (schema_comes label file) f

-- a formula at a declared root is one of the schema
pub formula_comes : ReadQuestionsAreValid → (s : Schema) (r at : ℕ) (text : List ℕ) → IsReadable s
    → IsDeclared s.graph r → Comes (λ q. IsQuestion s r q) (formula_word s r at text)
formula_comes questions s r at text v d = go (question_read s r text) refl
  where
    go : (o : Result Formula (List ℕ)) → question_read s r text ≡ o
        → Comes (λ q. IsQuestion s r q) (formula_or_fault at o)
    go (Ok f) e = asked (λ q. IsQuestion s r q) f (questions s r text f v d e).0
    go (Err name) e = told (λ q. IsQuestion s r q) Refused (refusal (fault_text (codes "word") at name))
