-- The schema that a text stands for, or its first fault.
--     Above            what the lines above a line say
--     line_read        a line, given those above it
--     schema_read      a text
--     question_read    the text of a question's formula, given a schema and a root
-- Two functions that are cited are machines: `tokens_of` and `the_formula`. The laws `FoundAsCut` and `FoundAsFormula`
-- of `olap_grammar` say that they are the relations `IsCut` and `IsFormula`.
use Rattle.std.specs.Prelude.{◌==◌, ◌||◌, ◌&&◌, ◌+◌, ◌-◌, ℕ, Bool, not, List, [], ◌∷◌, ◌++◌, Option, Some, None, Result, Ok, Err, length, find, is_some, unwrap_or, nat_lt, nat_le, slice_index, if◌then◌else◌, codes}
use Rattle.std.specs.List.{list_any, range_with_len}
use Rattle.olap_base.specs.Reaching.{category_reaches}
use Rattle.olap_base.specs.Graph.{Graph}
use Rattle.olap_base.specs.declared.refusals.Fault.{Fault}
use Rattle.olap_base.specs.Limits.{most_constants, most_constraints, most_depth, most_nodes, most_schema_nodes, most_text_bytes}
use Rattle.olap_graph.specs.Building.{all_alone, category_refusal, edge_refusal, with_edge, with_kind}
use Rattle.olap_graph.specs.Lookups.{name_of_category}
use Rattle.olap_graph.specs.declared.refusals.CategoryFault.{CategoryFault}
use Rattle.olap_graph.specs.declared.refusals.CategoryFault.TheVariants as of_category
use Rattle.olap_graph.specs.declared.refusals.EdgeFault.{EdgeFault}
use Rattle.olap_graph.specs.declared.refusals.EdgeFault.TheVariants as of_edge
use Rattle.olap_ast.specs.Formula.{Formula}
use Rattle.olap_grammar.specs.Forms.{Form, depth_of}
use Rattle.olap_ast.specs.Schema.{Constraint, Schema}
use Rattle.olap_ast.specs.Constants.{all_compared}
use Rattle.olap_ast.specs.Valid.{constant_count}
use Rattle.olap_grammar.specs.Brackets.{opens_over}
use Rattle.olap_grammar.specs.Cutting.{has_numbers}
use Rattle.olap_grammar.specs.CuttingMachine.{tokens_of}
use Rattle.olap_grammar.specs.Machine.{the_formula}
use Rattle.olap_grammar.specs.Nodes.{nodes_of}
use Rattle.olap_grammar.specs.Words.{atoms_of}
use Rattle.olap_grammar.specs.declared.tokens.Token.{Token}
use Rattle.olap_base.specs.Following.{given, goes_on}
use Rattle.olap_schema_text.specs.Resolving.{known, resolved}
use Rattle.olap_schema.specs.Readable.{is_bad}
use Rattle.olap_schema_text.specs.Lines.{chomped, is_quiet, lines_of}
use Rattle.olap_schema_text.specs.Statements as says
use Rattle.olap_schema_text.specs.Statements.{Statement, statement_of}
use Rattle.olap_schema_text.specs.Tokens.{is_bad_number, is_long, is_long_name}
use Rattle.olap_grammar.specs.declared.tokens.Version.{Version}
use Rattle.olap_grammar.specs.declared.tokens.Version.TheVariants as version

-- the version, once its line was read, the graph, the lines of its categories, the constraints, and how many nodes they
-- have
pub record Above : Type 0 where
  pub version : Option Version
  pub graph : Graph
  pub category_lines : List ℕ
  pub constraints : List Constraint
  pub nodes : ℕ

-- ---- categories and edges

-- the fault that a refused category is
abbrev pub category_kind : CategoryFault → List ℕ
category_kind of_category.DuplicateCategory = codes "DuplicateCategory"
category_kind of_category.TooManyCategories = codes "TooManyCategories"

-- the category is added, on the n-th line, with texts or numbers as its names, or refused
abbrev pub category_added : Above → ℕ → List ℕ → Bool → Option CategoryFault → Result Above (List ℕ)
category_added a n name number (Some e) = Err (category_kind e)
category_added a n name number None =
    Ok (record a { graph = with_kind number a.graph name; category_lines = a.category_lines ++ n ∷ [] })

-- a category's line
abbrev pub category_read : Above → ℕ → Version → List ℕ → Bool → Result Above (List ℕ)
category_read a n v name number =
    if number && not (has_numbers v) then Err (codes "BadForm")
    else if nat_lt most_text_bytes (length name) then Err (codes "TextTooLong")
    else category_added a n name number (category_refusal a.graph name)

-- the fault that a refused edge is
abbrev pub edge_kind : EdgeFault → List ℕ
edge_kind of_edge.SelfEdge = codes "SelfEdge"
edge_kind of_edge.EdgeFromAll = codes "EdgeFromAll"
edge_kind of_edge.DuplicateEdge = codes "DuplicateEdge"
edge_kind of_edge.TooManyEdges = codes "TooManyEdges"

-- the edge is added, or refused
abbrev pub edge_added : Above → ℕ → ℕ → Option EdgeFault → Result Above (List ℕ)
edge_added a c d (Some e) = Err (edge_kind e)
edge_added a c d None = Ok (record a { graph = with_edge a.graph c d })

-- an edge's line
abbrev pub edge_read : Above → List ℕ → List ℕ → Result Above (List ℕ)
edge_read a child parent =
    if nat_lt most_text_bytes (length child) || nat_lt most_text_bytes (length parent) then Err (codes "TextTooLong")
    else known a.graph child (λ c. known a.graph parent (λ d. edge_added a c d (edge_refusal a.graph c d)))

-- ---- formulas

-- the formula over words of the tokens by the version, by itself and with this many nodes on the lines above
unfoldable pub form_read : Version → ℕ → List Token → Result Form (List ℕ)
form_read v before ts =
    if nat_lt most_nodes (nodes_of v ts) || nat_lt most_schema_nodes (before + nodes_of v ts)
    then Err (codes "TooManyNodes")
    else if opens_over 0 0 ts then Err (codes "TooDeep")
    else given (the_formula (atoms_of v) ts) (codes "BadForm")
    (λ f. if nat_lt most_depth (depth_of f) then Err (codes "TooDeep") else Ok f)

-- the same with short names and good numbers, where a root of this name stands in front
abbrev pub formula_read : Version → ℕ → List ℕ → List Token → Result Form (List ℕ)
formula_read v before name ts =
    goes_on (form_read v before ts) (λ f.
    if is_long_name name || list_any is_long ts then Err (codes "TextTooLong")
    else if list_any is_bad_number ts then Err (codes "BadNumber")
    else Ok f)

-- ---- constraints

-- the formula and those before it have too many distinct constants
abbrev pub has_too_many_constants : List Constraint → Formula → Bool
has_too_many_constants cs f = nat_lt most_constants (constant_count (all_compared cs f))

-- the constraint is added, if there are then not too many constants
abbrev pub constraint_added : Above → Version → ℕ → List Token → Formula → Result Above (List ℕ)
constraint_added a v root ts f =
    if has_too_many_constants a.constraints f then Err (codes "TooManyConstants")
    else Ok (record a {
      constraints = a.constraints ++ record { root = root; formula = f } ∷ [];
      nodes = a.nodes + nodes_of v ts;
    })

-- goes on with the root of a further constraint, if it is a declared category and there is room for a constraint
abbrev pub root_read : Above → List ℕ → (ℕ → Result Above (List ℕ)) → Result Above (List ℕ)
root_read a name next =
    known a.graph name (λ root.
    if root == 0 then Err (codes "RootIsAll")
    else if nat_le most_constraints (length a.constraints) then Err (codes "TooManyConstraints")
    else next root)

-- a constraint's line
abbrev pub constraint_read : Above → Version → List ℕ → List Token → Result Above (List ℕ)
constraint_read a v name ts =
    goes_on (formula_read v a.nodes name ts) (λ form.
    root_read a name (λ root. goes_on (resolved a.graph root form) (λ f. constraint_added a v root ts f)))

-- ---- a line

-- what is known after a line that says this: the first such line must be the version line, and no later one may be
abbrev pub statement_read : Above → ℕ → Option Version → Statement → Result Above (List ℕ)
statement_read a n None (says.Statement.Version v) = Ok (record a { version = Some v })
statement_read a n (Some v) (says.Statement.Category name number) = category_read a n v name number
statement_read a n (Some v) (says.Statement.Edge child parent) = edge_read a child parent
statement_read a n (Some v) (says.Statement.Constraint root ts) = constraint_read a v root ts
statement_read a n v s = Err (codes "BadForm")

-- what is known after the n-th line, without its CR: before the version is known, it is read by the first version
unfoldable pub line_read : Above → ℕ → List ℕ → Result Above (List ℕ)
line_read a n line =
    if is_bad line then Err (codes "BadByte")
    else if is_quiet line then Ok a
    else given (tokens_of (unwrap_or a.version version.One) line) (codes "BadForm")
    (λ ts. statement_read a n a.version (statement_of ts))

-- ---- a text

-- the lines after the n-th, if those up to it give this: what all lines say, or the first that has a fault
abbrev pub lines_on : Result Above (List ℕ) → ℕ → List (List ℕ) → Result Above (Fault (List ℕ))
lines_on (Err k) n lines = Err (record { at = n; kind = k })
lines_on (Ok a) n [] = Ok a
lines_on (Ok a) n (line ∷ lines) = lines_on (line_read a (n + 1) (chomped line)) (n + 1) lines

-- before the first line
abbrev pub nothing_above : Above
nothing_above = record { version = None; graph = all_alone; category_lines = []; constraints = []; nodes = 0 }

-- the first declared category that doesn't reach `All`
abbrev pub first_stuck : Graph → Option ℕ
first_stuck g = find (λ c. not (category_reaches g c 0)) (range_with_len 1 (length g.names))

-- the schema of all lines; `NoWayToAll` at the line of the first category that doesn't reach `All`
abbrev pub whole : Above → Option ℕ → Result Schema (Fault (List ℕ))
whole a (Some c) = Err (record { at = slice_index a.category_lines (c - 1); kind = codes "NoWayToAll" })
whole a None = Ok (record { graph = a.graph; constraints = a.constraints })

-- the schema that the text stands for, or its first fault; some line is the version
unfoldable pub schema_read : List ℕ → Result Schema (Fault (List ℕ))
schema_read text = goes_on (lines_on (Ok nothing_above) 0 (lines_of text)) (λ a.
    if is_some a.version then whole a (first_stuck a.graph) else Err (record { at = 1; kind = codes "BadForm" }))

-- ---- a question's formula

-- the formula that the text is, at the root, or its first fault: by the second version, whatever the schema's was
unfoldable pub question_read : Schema → ℕ → List ℕ → Result Formula (List ℕ)
question_read s root text =
    if is_bad text then Err (codes "BadByte")
    else given (tokens_of version.Two text) (codes "BadForm") (λ ts.
    goes_on (formula_read version.Two 0 (name_of_category s.graph root) ts) (λ form.
    goes_on (resolved s.graph root form) (λ f.
    if has_too_many_constants s.constraints f then Err (codes "TooManyConstants") else Ok f)))

-- ---- as it is read

-- the first line with a fault, or what all lines say
abbrev pub Read : Type 0
Read = Result Above (Fault (List ℕ))

-- the schema of a text, where some line is the version
abbrev pub text_ended : Read → Result Schema (Fault (List ℕ))
text_ended read = goes_on read (λ a.
    if is_some a.version then whole a (first_stuck a.graph) else Err (record { at = 1; kind = codes "BadForm" }))
