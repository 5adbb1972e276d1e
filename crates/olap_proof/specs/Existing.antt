-- For which targets and sources there are certificates.
--     CertificatesExistExactlyWhereSummarizable    a certificate exists exactly if the target is summarizable
use Rattle.std.specs.Prelude.{◌↔◌, ℕ, List}
use Rattle.olap_base.specs.Graph.{IsHierarchy}
use Rattle.olap_ast.specs.Frozen.{AreCandidates, Candidates}
use Rattle.olap_ast.specs.Schema.{Schema}
use Rattle.olap_ast.specs.Summarizable.{IsSummarizable, not_by_one}
use Rattle.olap_proof.specs.declared.forms.Form.{Form}
use Rattle.olap_proof.specs.Certificates.{IsCertificate}

-- there is a certificate of either form exactly if the target is summarizable from the sources
abbrev pub CertificatesExistExactlyWhereSummarizable : Type 0
CertificatesExistExactlyWhereSummarizable = (f : Form) (s : Schema) (c : ℕ) (sources : List ℕ) (k : Candidates)
    → IsHierarchy s.graph → AreCandidates s (not_by_one c sources) k
    → IsSummarizable s c sources ↔ ((lines : List (List ℕ)) × IsCertificate f s (not_by_one c sources) k lines)
