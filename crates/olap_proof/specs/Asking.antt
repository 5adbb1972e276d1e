-- The question that a certificate is written for, as the program has it.
--     schema_in, question_in, names_in    the schema, the question, and the names that members may have
--     IsAsked                             a hierarchy, with the names of the schema and the question
--     IsClosing, IsOpenTo                 a line closes a place, or doesn't
--     IsUndecided, IsUnnamed              an edge or a name that may be decided there
use Rattle.std.specs.Prelude.{◌≡◌, ◌<◌, None, length, map}
use Rattle.olap_ast.specs.Formula.{Formula}
use Rattle.olap_ast.specs.Frozen.{AreCandidates, Candidates}
use Rattle.olap_ast.specs.Schema.{Schema}
use Rattle.olap_ast.specs.Trees.{constraint_of, formula_of}
use Rattle.olap_base.specs.Graph.{IsDeclared, IsHierarchy, category_count}
use Rattle.olap_base.specs.declared.ids.CatId.{CatId}
use Rattle.olap_base.specs.declared.ids.EdgeId.{EdgeId}
use Rattle.olap_names.specs.Names.{candidates_of, with_graph}
use Rattle.olap_trail.specs.Decisions.{status_of}
use Rattle.olap_proof.specs.declared.asking.Asked.{Asked}
use Rattle.olap_proof.specs.declared.forms.Form.{Form}
use Rattle.olap_proof.specs.declared.lines.Line as program
use Rattle.olap_proof.specs.Lines.{Line}
use Rattle.olap_proof.specs.Closing.{Closes, IsAbout}
use Rattle.olap_proof.specs.Places.{Place, index_of}
use Rattle.olap_proof.specs.Reading.{meaning}

-- the schema
abbrev pub schema_in : Asked → Schema
schema_in a = with_graph a.graph.now (map constraint_of a.constraints.now)

-- the question
abbrev pub question_in : Asked → Formula
question_in a = formula_of a.question.now

-- the names that members may have
abbrev pub names_in : Asked → Candidates
names_in a = candidates_of a.candidates.now

-- it is a line about this schema, and closes the place
abbrev pub IsClosing : Form → Asked → Place → program.Line → Type 0
IsClosing f a p l =
    IsAbout (schema_in a) (meaning l) × Closes f (schema_in a) (question_in a) (names_in a) p (meaning l)

-- the line doesn't close the place
abbrev pub IsOpenTo : Form → Asked → Place → Line → Type 0
IsOpenTo f a p l = Closes f (schema_in a) (question_in a) (names_in a) p l → ⊥

-- the edge is the schema's, and isn't decided at the place
abbrev pub IsUndecided : Asked → Place → EdgeId → Type 0
IsUndecided a p e = (e.0 < length a.graph.now.edges) × (status_of p.decided e.0 ≡ None)

-- the category is declared, and its name isn't decided at the place
abbrev pub IsUnnamed : Asked → Place → CatId → Type 0
IsUnnamed a p c = IsDeclared a.graph.now c.0 × (index_of p.namings c.0 ≡ None)

-- the graph is a hierarchy, each category has its names, and they are those of the schema and the question
pub record IsAsked (a : Asked) : Type 0 where
  pub hierarchy : IsHierarchy a.graph.now
  pub named : length a.candidates.now.texts ≡ category_count a.graph.now
  pub candidates : AreCandidates (schema_in a) (question_in a) (names_in a)
