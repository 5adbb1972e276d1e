-- What was verified are the text's bytes.
use Rattle.std.proofs.Common.{ℕ, List, subst}
use Rattle.olap_proof.specs.Verifying.{IsCertificateFor}
use Rattle.olap_schema.specs.Schemas.{schema_of}
use Rattle.olap_ast.specs.Trees.{numbers_of}
use Rattle.olap_prove.proofs.proving.accepted_draft.Goals as goal

pub returns-in-Ok-verify-clause-certificate : goal.returns-in-Ok-verify-clause-certificate
returns-in-Ok-verify-clause-certificate c =
    let s = schema_of c.args.schema.now in
    subst (λ (xs : List ℕ). IsCertificateFor c.args.form s c.args.target.0 (numbers_of c.args.sources.now) xs)
    c.deref.ensures.value c.in-Ok-verify.ensures.ok
