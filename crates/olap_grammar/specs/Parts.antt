-- Formulas with their depth.
use Rattle.std.specs.Prelude.{ℕ}
use Rattle.olap_grammar.specs.Forms.{Form, Forms}
use Rattle.olap_grammar.specs.Shown.{form_of, forms_of}
use Rattle.olap_grammar.specs.declared.parts.Part.{Part}
use Rattle.olap_grammar.specs.declared.parts.Parts.{Parts}

-- a depth and a formula
abbrev pub part_of : Part → ℕ × Form
part_of p = (p.depth, form_of p.form)

-- a depth and the parts of a list
abbrev pub parts_of : Parts → ℕ × Forms
parts_of p = (p.depth, forms_of p.forms)
