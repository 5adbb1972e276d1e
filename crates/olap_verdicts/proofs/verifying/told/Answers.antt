use Rattle.std.{proofs.Common.{◌≡◌, ◌∙◌}, specs.Prelude.Err}
use Rattle.olap_ast.specs.Trees.{numbers_of}
use Rattle.olap_schema.specs.Schemas.{schema_of}
use Rattle.olap_verdicts.proofs.ReplyLemmas.{wrong_shown}
use Rattle.olap_base.specs.declared.refusals.Refusal.TheVariants as refusal
use Rattle.olap_proof.specs.declared.verifying.VerifyFault.TheVariants as fault
use Rattle.olap_verdicts.proofs.verifying.told.Goals as goal

pub returns-in_ok-rejected-in-Err-Kind-Rejected : goal.returns-in_ok-rejected-in-Err-Kind-Rejected
returns-in_ok-rejected-in-Err-Kind-Rejected c =
    let at = c.in-Err-Kind-Rejected.line in
    let is = c.in-Err-Kind-Rejected.is in
    let that = c.in-Err-Kind-Rejected.field-0-is in
    let wrong : c.verify.result ≡ Err (refusal.Kind (fault.Rejected at)) = cc in
    record {
      replies = wrong_shown c.args.form (schema_of c.args.schema.now) c.args.target.0 (numbers_of c.args.sources.now)
          c.args.text.now at (c.verify.ensures.rejected at wrong) c.no.result
          c.no.ensures.status (c.no.ensures.bytes ∙ c.in_ok-rejected-in-Err-Kind-Rejected.ensures);
    }
