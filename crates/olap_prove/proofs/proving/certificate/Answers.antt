-- The text has the draft's bytes.
use Rattle.std.proofs.Common.{◌≤◌, ℕ, List, length, subst, sym}
use Rattle.olap_base.specs.Limits.{most_certificate_bytes}
use Rattle.olap_proof.specs.Verifying.{IsCertificateFor}
use Rattle.olap_schema.specs.Schemas.{schema_of}
use Rattle.olap_ast.specs.Trees.{numbers_of}
use Rattle.olap_prove.proofs.proving.certificate.Goals as goal

pub returns-in-Some-clause-certificate : goal.returns-in-Some-clause-certificate
returns-in-Some-clause-certificate c =
    let s = schema_of c.args.schema.now in
    subst (λ (xs : List ℕ). IsCertificateFor c.args.form s c.args.target.0 (numbers_of c.args.sources.now) xs)
    (sym c.from_vec.ensures) (rw c.in-Some.is at c.in_ok-drafted.ensures.certificate)

pub returns-in-Some-clause-short : goal.returns-in-Some-clause-short
returns-in-Some-clause-short c =
    subst (λ (xs : List ℕ). length xs ≤ most_certificate_bytes) (sym c.from_vec.ensures)
    (rw c.in-Some.is at c.in_ok-drafted.ensures.short)
