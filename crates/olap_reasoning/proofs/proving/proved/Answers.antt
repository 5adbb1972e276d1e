use Rattle.std.{proofs.Common.{sym, subst, ◌∙◌}, specs.Prelude.◌↔◌}
use Rattle.olap_ast.specs.{Summarizable.IsSummarizable, Trees.numbers_of}
use Rattle.olap_proof.specs.Verifying.{IsCertificateFor}
use Rattle.olap_prove.specs.Proofs.{IsYes, Shows}
use Rattle.olap_schema.specs.Schemas.{schema_of}
use Rattle.olap_reasoning.proofs.CertificateLemmas.{certificate_shown, difference_shown}
use Rattle.olap_reasoning.{proofs.ReplyLemmas.replies_or_memory, specs.Questions.ByProof}
use Rattle.olap_reasoning.proofs.proving.proved.Goals as goal

pub returns-in-Ok-Yes : goal.returns-in-Ok-Yes
returns-in-Ok-Yes c =
    let s = schema_of c.args.schema.now in
    let sources = numbers_of c.args.sources.now in
    let is = subst (λ p. IsYes p ↔ IsSummarizable s target sources) c.in-Ok-Yes.field-0-is c.in-Ok-Yes.ensures.yes in
    let shows = subst (Shows f s target sources) c.in-Ok-Yes.field-0-is c.in-Ok-Yes.ensures.proof in
    record {
      replies = certificate_shown f s target sources (is.0 tt) c.yes.result c.yes.ensures.status
          (subst (IsCertificateFor f s target sources) (sym (c.yes.ensures.bytes ∙ c.into_bytes.ensures)) shows);
    }
  where
    open c use {args.form as f, args.target.0 as target}

pub returns-in-Ok-No : goal.returns-in-Ok-No
returns-in-Ok-No c =
    let s = schema_of c.args.schema.now in
    let target = c.args.target.0 in
    let sources = numbers_of c.args.sources.now in
    let found = subst (Shows c.args.form s target sources) c.in-Ok-No.field-0-is c.in-Ok-No.ensures.proof in
    record {
      replies = replies_or_memory c.shown.result c.shown.ensures.status c.shown.ensures.text c.shown.ensures.memory
          (difference_shown (ByProof c.args.form s target sources) s target sources c.in-Ok-No.found found
          (λ bytes shows. shows));
    }
