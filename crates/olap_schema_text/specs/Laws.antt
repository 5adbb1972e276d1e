-- The laws of schemas that are read, and of a question's formulas.
--     ReadSchemasAreReadable    what is read can be printed and read back
--     ReadSchemasAreValid       what is read is a valid schema
--     ReadQuestionsAreValid     a question that is read is one of the schema
--     OpenBracketsAreCounted    what the count of open brackets finds
use Rattle.std.specs.Prelude.{◌≡◌, ◌↔◌, ◌<◌, ◌+◌, ℕ, true, List, Result, Ok, count_by, take}
use Rattle.olap_base.specs.Graph.{IsDeclared}
use Rattle.olap_base.specs.Limits.{most_depth}
use Rattle.olap_base.specs.declared.refusals.Fault.{Fault}
use Rattle.olap_ast.specs.Atoms.{equalities}
use Rattle.olap_ast.specs.Formula.{Formula}
use Rattle.olap_ast.specs.Schema.{Schema}
use Rattle.olap_ast.specs.Valid.{IsQuestion, IsValidSchema}
use Rattle.olap_schema_text.specs.Judging.{question_read, schema_read}
use Rattle.olap_grammar.specs.Brackets.{is_close, is_open, opens_over}
use Rattle.olap_grammar.specs.declared.tokens.Token.{Token}
use Rattle.olap_schema.specs.Readable.{AreTexts, IsReadable}

-- if a schema was read, it is valid, and its constants can stand in a line
abbrev pub GivesReadable : Result Schema (Fault (List ℕ)) → Type 0
GivesReadable read = (s : Schema) → read ≡ Ok s → IsReadable s

-- each schema that is read is valid, and its constants can stand in a line
abbrev pub ReadSchemasAreReadable : Type 0
ReadSchemasAreReadable = (text : List ℕ) → GivesReadable (schema_read text)

-- a schema that is read is valid
abbrev pub ReadSchemasAreValid : Type 0
ReadSchemasAreValid = (text : List ℕ) (s : Schema) → schema_read text ≡ Ok s → IsValidSchema s

-- a question's formula that is read, at a declared category, is one of the schema and keeps the limits together with
-- it, and its constants can stand in a line
abbrev pub ReadQuestionsAreValid : Type 0
ReadQuestionsAreValid =
    (s : Schema) (root : ℕ) (text : List ℕ) (f : Formula) → IsReadable s → IsDeclared s.graph root
    → question_read s root text ≡ Ok f → IsQuestion s root f × AreTexts (equalities f)

-- too many brackets are open exactly if some beginning of the tokens has too many more `(` than `)`
abbrev pub OpenBracketsAreCounted : Type 0
OpenBracketsAreCounted = (ts : List Token) → (opens_over 0 0 ts ≡ true) ↔ (k : ℕ)
    × (count_by is_close (take k ts) + most_depth < count_by is_open (take k ts))
