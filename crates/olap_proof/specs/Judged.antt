-- Every text has a verdict.
--     TextsAreJudged    a text is a certificate, or has a first wrong line
use Rattle.std.specs.Prelude.{◌⊎◌, ℕ, List}
use Rattle.olap_ast.specs.Formula.{Formula}
use Rattle.olap_ast.specs.Frozen.{AreCandidates, Candidates}
use Rattle.olap_ast.specs.Schema.{Schema}
use Rattle.olap_proof.specs.Verifying.{IsCertificateOf, IsFirstWrongOf}
use Rattle.olap_proof.specs.declared.forms.Form.{Form}

-- if there are candidates, a text is a certificate, or some line is the first that is wrong
abbrev pub TextsAreJudged : Type 0
TextsAreJudged = (f : Form) (s : Schema) (q : Formula) (k : Candidates) (text : List ℕ) → AreCandidates s q k
    → IsCertificateOf f s q text ⊎ ((line : ℕ) × IsFirstWrongOf f s q text line)
