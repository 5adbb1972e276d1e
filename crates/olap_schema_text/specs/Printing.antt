-- The canonical text of a schema.
--     formula_text     a formula at a root
--     schema_text      a schema
use Rattle.std.specs.Prelude.{◌==◌, ◌++◌, ℕ, Bool, List, [], ◌∷◌, codes, flat_map, map, zip, if◌then◌else◌}
use Rattle.olap_base.specs.Bytes.{colon, comma, equals_sign, exclamation_mark, full_stop, left_parenthesis, line_feed, right_parenthesis, space, underscore}
use Rattle.olap_base.specs.Graph.{Edge, Graph}
use Rattle.olap_graph.specs.Lookups.{name_of_category}
use Rattle.olap_ast.specs.Formula as Meaning
use Rattle.olap_ast.specs.Formula.{Formula, Terms}
use Rattle.olap_ast.specs.Schema.{Constraint, Schema}
use Rattle.olap_numerals.specs.Numerals.{canonical}
use Rattle.olap_grammar.specs.Cutting.{joint_bytes, mark_bytes}
use Rattle.olap_grammar.specs.Grammar.{comparing}
use Rattle.olap_grammar.specs.Quoting.{quoted}
use Rattle.olap_grammar.specs.declared.tokens.Joint.{Joint}
use Rattle.olap_grammar.specs.declared.tokens.Joint.TheVariants as joint

-- ---- formulas

-- the word of an atom: the name of its root, and those of these categories, with the mark before each
abbrev pub atom_word : Graph → ℕ → ℕ → List ℕ → List ℕ
atom_word g root mark cs = name_of_category g root ++ flat_map (λ c. mark ∷ name_of_category g c) cs

-- the word of the category whose name is compared: the root stands by itself
abbrev pub compared_word : Graph → ℕ → ℕ → List ℕ
compared_word g root d = if d == root then name_of_category g root else atom_word g root full_stop (d ∷ [])

-- two formulas in brackets with a mark between
abbrev pub joined_text : Joint → List ℕ → List ℕ → List ℕ
joined_text j left right =
    left_parenthesis ∷ (left ++ space ∷ (joint_bytes j ++ space ∷ (right ++ right_parenthesis ∷ [])))

abbrev mutual
  pub formula_text : Graph → ℕ → Formula → List ℕ
  formula_text g r Meaning.Formula.Truth = codes "true"
  formula_text g r Meaning.Formula.Falsity = codes "false"
  formula_text g r (Meaning.Formula.Path cs) = atom_word g r underscore cs
  formula_text g r (Meaning.Formula.Reach d) = atom_word g r full_stop (d ∷ [])
  formula_text g r (Meaning.Formula.Via d e) = atom_word g r full_stop (d ∷ e ∷ [])
  formula_text g r (Meaning.Formula.Equals d k) = compared_word g r d ++ space ∷ equals_sign ∷ space ∷ quoted k
  formula_text g r (Meaning.Formula.Compare d op n) =
      compared_word g r d ++ space ∷ (mark_bytes (comparing op) ++ space ∷ canonical n)
  formula_text g r (Meaning.Formula.Not f) = exclamation_mark ∷ formula_text g r f
  formula_text g r (Meaning.Formula.And f h) = joined_text joint.And (formula_text g r f) (formula_text g r h)
  formula_text g r (Meaning.Formula.Or f h) = joined_text joint.Or (formula_text g r f) (formula_text g r h)
  formula_text g r (Meaning.Formula.Implies f h) = joined_text joint.Implies (formula_text g r f) (formula_text g r h)
  formula_text g r (Meaning.Formula.Iff f h) = joined_text joint.Iff (formula_text g r f) (formula_text g r h)
  formula_text g r (Meaning.Formula.Xor f h) = joined_text joint.Xor (formula_text g r f) (formula_text g r h)
  formula_text g r (Meaning.Formula.One fs) = codes "one(" ++ (list_text g r fs ++ right_parenthesis ∷ [])

  -- the parts of a list, with a comma and a space between
  pub list_text : Graph → ℕ → Terms → List ℕ
  list_text g r Meaning.Terms.End = []
  list_text g r (Meaning.Terms.More f fs) = formula_text g r f ++ rest_text g r fs

  -- the parts after the first
  pub rest_text : Graph → ℕ → Terms → List ℕ
  rest_text g r Meaning.Terms.End = []
  rest_text g r (Meaning.Terms.More f fs) = comma ∷ space ∷ (formula_text g r f ++ rest_text g r fs)

-- ---- lines, without their LF

-- the line of a category: its name, and whether its members' names are numbers
abbrev pub category_text : List ℕ × Bool → List ℕ
category_text c = codes "category " ++ (c.0 ++ (if c.1 then codes " number" else []))

-- the line of an edge
abbrev pub edge_text : Graph → Edge → List ℕ
edge_text g e = codes "edge " ++ (name_of_category g e.child ++ space ∷ name_of_category g e.parent)

-- the line of a constraint
abbrev pub constraint_text : Graph → Constraint → List ℕ
constraint_text g c =
    codes "constraint " ++ (name_of_category g c.root ++ colon ∷ space ∷ formula_text g c.root c.formula)

-- ---- texts

-- the lines of a schema
abbrev pub schema_lines : Schema → List (List ℕ)
schema_lines s =
    codes "schema 2" ∷ (map category_text (zip s.graph.names s.graph.numbers) ++ (map (edge_text s.graph) s.graph.edges
    ++ map (constraint_text s.graph) s.constraints))

-- the lines, each with its LF
unfoldable pub text_of_lines : List (List ℕ) → List ℕ
text_of_lines [] = []
text_of_lines (line ∷ lines) = line ++ line_feed ∷ text_of_lines lines

-- the canonical text
abbrev pub schema_text : Schema → List ℕ
schema_text s = text_of_lines (schema_lines s)

-- ---- as it is printed

-- the names of these categories, with the mark before each
abbrev pub names_after : Graph → ℕ → List ℕ → List ℕ
names_after g mark cs = flat_map (λ c. mark ∷ name_of_category g c) cs

-- the version line
abbrev pub version_text : List ℕ
version_text = codes "schema 2"

-- what stands after the name of a category
abbrev pub kind_text : Bool → List ℕ
kind_text number = if number then codes " number" else []

-- the line with an LF at its end
abbrev pub ended_line : List ℕ → List ℕ
ended_line line = line ++ line_feed ∷ []
