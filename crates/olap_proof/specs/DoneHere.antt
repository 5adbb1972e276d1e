-- Lines at the program's place, of a schema with some constraints, for a question.
--     schema_at   the schema
--     DoesHere    the line does something
--     open_after  what is open after the line
--     StepsHere   bytes do this
use Rattle.std.specs.Prelude.{ℕ, List, map}
use Rattle.olap_ast.specs.Schema.{Schema}
use Rattle.olap_ast.specs.Trees.{constraint_of, formula_of}
use Rattle.olap_ast.specs.declared.formulas.Constraint.{Constraint}
use Rattle.olap_ast.specs.declared.formulas.Formula.{Formula}
use Rattle.olap_names.specs.Names.{candidates_of, with_graph}
use Rattle.olap_proof.specs.declared.lines.Line as program
use Rattle.olap_proof.specs.declared.telling.Known.{Known}
use Rattle.olap_proof.specs.Certificates.{Open, Open.At, Steps}
use Rattle.olap_proof.specs.Doing.{Does, leaves_open}
use Rattle.olap_proof.specs.Reading.{meaning}

-- the schema
abbrev pub schema_at : Known → List Constraint → Schema
schema_at p cs = with_graph p.graph.now (map constraint_of cs)

-- the line does something
abbrev pub DoesHere : Known → List Constraint → Formula → program.Line → Type 0
DoesHere p cs q l =
    Does p.form (schema_at p cs) (formula_of q) (candidates_of p.candidates.now) p.place.now (meaning l)

-- what is open after the line
abbrev pub open_after : Known → program.Line → List Open
open_after p l = leaves_open (candidates_of p.candidates.now) p.place.now (meaning l)

-- bytes do this
abbrev pub StepsHere : Known → List Constraint → Formula → List ℕ → List Open → Type 0
StepsHere p cs q bytes new =
    Steps p.form (schema_at p cs) (formula_of q) (candidates_of p.candidates.now) bytes (At p.place.now) new
