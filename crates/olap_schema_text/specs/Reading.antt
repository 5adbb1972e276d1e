-- The values of the readers, as the definitions have them.
--     Finds                         no fault was found, or the first
--     form_kind, form_answer        what a reader of tokens says, as a fault of a schema
--     above_of                      what the reader knows, as the definition has it
--     IsCounted                     the reader's distinct constants are those of its constraints
--     Reads                         a line was read as the definition says
--     ReadsLines                    so were all lines
--     ReadsForm, ReadsFormula       a formula was read as the definition says, over words or at a root
--     said                          what the tokens of a line say
--     HasName                       a new category has a category name
--     IsTallyBehind                 what was counted is so of the tokens
use Rattle.std.specs.Prelude.{◌≡◌, ◌≤◌, ◌<◌, ◌+◌, ℕ, List, Result, Ok, Err, Option, Some, None, codes, flat_map, map, IsTrue}
use Rattle.olap_base.specs.Reaching.{is_category_name}
use Rattle.olap_base.specs.Refusing.{IsFor}
use Rattle.olap_base.specs.declared.refusals.Fault.{Fault}
use Rattle.olap_base.specs.declared.refusals.Refusal.{Refusal}
use Rattle.olap_ast.specs.Atoms.{Comparison, Equality, comparisons, equalities}
use Rattle.olap_ast.specs.Formula as Meaning
use Rattle.olap_ast.specs.Pairs.{distinct_numbers, distinct_pairs}
use Rattle.olap_ast.specs.Schema.{Constraint}
use Rattle.olap_ast.specs.Trees.{constraint_of, formula_of}
use Rattle.olap_ast.specs.declared.formulas.Formula.{Formula}
use Rattle.olap_grammar.specs.Brackets.{opens_over}
use Rattle.olap_grammar.specs.Forms as words
use Rattle.olap_grammar.specs.Shown.{form_of}
use Rattle.olap_grammar.specs.declared.forms.Form.{Form}
use Rattle.olap_grammar.specs.declared.refusals.FormFault.{FormFault}
use Rattle.olap_grammar.specs.declared.refusals.FormFault.TheVariants as of_form
use Rattle.olap_grammar.specs.Tallying.{counted_nodes}
use Rattle.olap_grammar.specs.Nodes.{nodes_of}
use Rattle.olap_grammar.specs.declared.tallying.Tally.{Tally}
use Rattle.olap_grammar.specs.declared.tokens.Version.{Version}
use Rattle.olap_grammar.specs.declared.tokens.Token.{Token}
use Rattle.olap_schema_text.specs.Judging.{Above, Read}
use Rattle.olap_schema_text.specs.Kinds.{IsFaultOf, IsRefusedAs, name_of_kind}
use Rattle.olap_schema_text.specs.Statements as says
use Rattle.olap_schema_text.specs.declared.kinds.SchemaKind.{SchemaKind}
use Rattle.olap_schema_text.specs.declared.pairing.NumberPair.{NumberPair}
use Rattle.olap_schema_text.specs.declared.pairing.Pair.{Pair}
use Rattle.olap_schema_text.specs.declared.reading.Reading.{Reading}
use Rattle.olap_schema_text.specs.declared.statements.Statement.{Statement}
use Rattle.olap_schema_text.specs.declared.statements.Statement.TheVariants as statement

-- no fault, or that of this name, or out of memory
abbrev pub Finds : {A : Type 0} → Result A (Refusal SchemaKind) → Option (List ℕ) → Type 0
Finds (Ok u) first = first ≡ None
Finds (Err e) first = IsFor (λ k. first ≡ Some (name_of_kind k)) e

-- a pair of a category and a text
abbrev pub pair_of : Pair → Equality
pair_of p = record { category = p.category.0; text = p.text }

-- a pair of a category and a number
abbrev pub number_pair_of : NumberPair → Comparison
number_pair_of p = record { category = p.category.0; number = p.number }

-- what the reader knows
abbrev pub above_of : Reading → Above
above_of r = record {
  version = r.version;
  graph = r.builder;
  category_lines = r.category_lines.items;
  constraints = map constraint_of r.constraints.items;
  nodes = r.nodes;
}

-- the pairs are the distinct ones of the constraints
pub record AreCounted (cs : List Constraint) (pairs : List Equality) (numbers : List Comparison) : Type 0 where
  pub texts_are : pairs ≡ distinct_pairs (flat_map (λ c. equalities c.formula) cs)
  pub numbers_are : numbers ≡ distinct_numbers (flat_map (λ c. comparisons c.formula) cs)

-- so are those that the reader has
abbrev pub IsCounted : Reading → Type 0
IsCounted r =
    AreCounted (map constraint_of r.constraints.items) (map pair_of r.pairs.items) (map number_pair_of r.numbers.items)

-- the reader goes on to what it knows now, or the line has that fault
abbrev pub Reads : {A : Type 0} → Result A (Refusal SchemaKind) → Above → Result Above (List ℕ) → Type 0
Reads (Ok u) new read = read ≡ Ok new
Reads (Err e) new read = IsRefusedAs e read

-- the reader knows what all lines say, or a line has that fault
abbrev pub ReadsLines : {A : Type 0} → Result A (Refusal (Fault SchemaKind)) → Above → Read → Type 0
ReadsLines (Ok u) new read = read ≡ Ok new
ReadsLines (Err e) new read = IsFaultOf e read

-- the fault of tokens that are no formula
abbrev pub form_kind : FormFault → List ℕ
form_kind of_form.BadForm = codes "BadForm"
form_kind of_form.TooDeep = codes "TooDeep"

-- the formula, or its fault
abbrev pub form_answer : Result words.Form FormFault → Result words.Form (List ℕ)
form_answer (Ok f) = Ok f
form_answer (Err e) = Err (form_kind e)

-- the formula over words was read, or there is that fault
abbrev pub ReadsForm : Result Form (Refusal SchemaKind) → Result words.Form (List ℕ) → Type 0
ReadsForm (Ok f) read = read ≡ Ok (form_of f)
ReadsForm (Err e) read = IsRefusedAs e read

-- the formula was read, or there is that fault
abbrev pub ReadsFormula : Result Formula (Refusal SchemaKind) → Result Meaning.Formula (List ℕ) → Type 0
ReadsFormula (Ok f) read = read ≡ Ok (formula_of f)
ReadsFormula (Err e) read = IsRefusedAs e read

-- what the tokens of a line say
abbrev pub said : Statement → says.Statement
said (statement.Version v) = says.Statement.Version v
said (statement.Category name number) = says.Statement.Category name.now number
said (statement.Edge child parent) = says.Statement.Edge child.now parent.now
said (statement.Constraint root tokens) = says.Statement.Constraint root.now tokens.now
said statement.Other = says.Statement.Other

-- the name of a new category is a category name
abbrev pub HasName : Statement → Type 0
HasName (statement.Category name number) = IsTrue (is_category_name name.now)
HasName s = Unit {0}

-- what was counted of these tokens and of this many nodes in front of them
pub record IsTallyBehind (v : Version) (front : ℕ) (y : Tally) (ts : List Token) : Type 0 where
  pub few : y.nodes ≤ front + nodes_of v ts
  pub nodes : y.nodes < counted_nodes → y.nodes ≡ front + nodes_of v ts
  pub too_deep : y.too_deep ≡ opens_over 0 0 ts
