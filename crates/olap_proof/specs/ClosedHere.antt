-- Lines that close the program's place, of a schema with some constraints, for a question.
--     ClosesHere       the line closes it
--     IsOpenHere       it doesn't
--     IsClosingHere    it is a line about the schema, and closes it
use Rattle.std.specs.Prelude.{List}
use Rattle.olap_ast.specs.Trees.{formula_of}
use Rattle.olap_ast.specs.declared.formulas.Constraint.{Constraint}
use Rattle.olap_ast.specs.declared.formulas.Formula.{Formula}
use Rattle.olap_names.specs.Names.{candidates_of}
use Rattle.olap_proof.specs.declared.lines.Line as program
use Rattle.olap_proof.specs.declared.telling.Known.{Known}
use Rattle.olap_proof.specs.DoneHere.{schema_at}
use Rattle.olap_proof.specs.Lines.{Line}
use Rattle.olap_proof.specs.Closing.{Closes, IsAbout}
use Rattle.olap_proof.specs.Reading.{meaning}

-- the line closes it
abbrev pub ClosesHere : Known → List Constraint → Formula → Line → Type 0
ClosesHere p cs q l = Closes p.form (schema_at p cs) (formula_of q) (candidates_of p.candidates.now) p.place.now l

-- it doesn't
abbrev pub IsOpenHere : Known → List Constraint → Formula → Line → Type 0
IsOpenHere p cs q l = ClosesHere p cs q l → ⊥

-- it is a line about the schema, and closes it
abbrev pub IsClosingHere : Known → List Constraint → Formula → program.Line → Type 0
IsClosingHere p cs q l = IsAbout (schema_at p cs) (meaning l) × ClosesHere p cs q (meaning l)
