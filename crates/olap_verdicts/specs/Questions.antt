-- What is asked about a text, and what answers it.
--     Question   a command's question, with all that it needs
--     IsAnswer   a status and bytes answer the question
use Rattle.std.specs.Prelude.{◌≡◌, ◌⊎◌, ◌++◌, ℕ, List, codes}
use Rattle.std.specs.Fmt.{decimal}
use Rattle.olap_ast.specs.Schema.{Schema}
use Rattle.olap_ast.specs.Summarizable.{not_by_one}
use Rattle.olap_order.specs.Outputs.{line}
use Rattle.olap_order.specs.declared.status.Status.{Status}
use Rattle.olap_order.specs.declared.status.Status.TheVariants.{Yes, No}
use Rattle.olap_proof.specs.Verifying.{IsCertificateOf, IsFirstWrongOf}
use Rattle.olap_proof.specs.declared.forms.Form.{Form}

-- a command's question, with all that it needs
pub data Question : Type 0 where
  -- is the text a certificate of that form for the schema, the target and the sources?
  ByCertificate : (form : Form) (schema : Schema) (target : ℕ) (sources : List ℕ) (text : List ℕ) → Question

-- this status and these bytes answer the question
abbrev pub IsAnswer : Question → Status → List ℕ → Type 0
IsAnswer (ByCertificate f s c sources text) status bytes =
    ((status ≡ Yes) × IsCertificateOf f s (not_by_one c sources) text × (bytes ≡ line (codes "accepted")))
    ⊎ ((status ≡ No) × ((at : ℕ) × IsFirstWrongOf f s (not_by_one c sources) text at
    × (bytes ≡ line (codes "rejected line " ++ decimal at))))
