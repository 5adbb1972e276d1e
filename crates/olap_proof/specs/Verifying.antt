-- Verdicts on a text, for candidates that there are. Any serve: those of one schema and one question have the same
-- names.
--     IsCertificateOf     a text is a certificate, for a question
--     IsFirstWrongOf      a line of a text is the first that is wrong, for a question
--     IsCertificateFor, IsFirstWrongFor    for a target and sources
--     VerdictsAreOne      a certificate has no first wrong line, and another text has one at most
use Rattle.std.specs.Prelude.{◌≡◌, ◌<◌, ◌^◌, ℕ, List, length}
use Rattle.olap_base.specs.Graph.{IsHierarchy}
use Rattle.olap_ast.specs.Formula.{Formula}
use Rattle.olap_ast.specs.Frozen.{AreCandidates, Candidates}
use Rattle.olap_ast.specs.Schema.{Schema}
use Rattle.olap_ast.specs.Summarizable.{not_by_one}
use Rattle.olap_proof.specs.declared.forms.Form.{Form}
use Rattle.olap_proof.specs.Certificates.{IsCertificateText, IsFirstWrong}

-- there are candidates, and the text is a certificate
abbrev pub IsCertificateOf : Form → Schema → Formula → List ℕ → Type 0
IsCertificateOf f s q text = (k : Candidates) × AreCandidates s q k × IsCertificateText f s q k text

-- there are candidates, and the line is the first that is wrong
abbrev pub IsFirstWrongOf : Form → Schema → Formula → List ℕ → ℕ → Type 0
IsFirstWrongOf f s q text line = (k : Candidates) × AreCandidates s q k × IsFirstWrong f s q k text line

-- the text is a certificate of why the target is summarizable from the sources
abbrev pub IsCertificateFor : Form → Schema → ℕ → List ℕ → List ℕ → Type 0
IsCertificateFor f s c sources text = IsCertificateOf f s (not_by_one c sources) text

-- the line is the first that is wrong in it
abbrev pub IsFirstWrongFor : Form → Schema → ℕ → List ℕ → List ℕ → ℕ → Type 0
IsFirstWrongFor f s c sources text line = IsFirstWrongOf f s (not_by_one c sources) text line

-- a certificate has no first wrong line
abbrev pub NoneIsWrong : Form → Schema → Formula → List ℕ → Type 0
NoneIsWrong f s q text = (line : ℕ) → IsFirstWrongOf f s q text line → IsCertificateOf f s q text → ⊥

-- and another text has one at most
abbrev pub OneIsFirstWrong : Form → Schema → Formula → List ℕ → Type 0
OneIsFirstWrong f s q text =
    (line other : ℕ) → IsFirstWrongOf f s q text line → IsFirstWrongOf f s q text other → line ≡ other

-- of a schema with so few constraints that they can be numbered by 64 bits
abbrev pub VerdictsAreOne : Type 0
VerdictsAreOne = (f : Form) (s : Schema) (q : Formula) (text : List ℕ) → IsHierarchy s.graph
    → length s.constraints < 2 ^ 64 → NoneIsWrong f s q text × OneIsFirstWrong f s q text
