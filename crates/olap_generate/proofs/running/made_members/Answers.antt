use Rattle.std.proofs.Common.{subst, ◌∙◌}
use Rattle.olap_base.specs.Refusing.{IsRefusedBy}
use Rattle.olap_check.specs.Reports.{IsRefused}
use Rattle.olap_instance.specs.InstanceText.{instance_read}
use Rattle.olap_records.specs.Records.{records_of}
use Rattle.olap_schema.specs.Schemas.{schema_of}
use Rattle.olap_generate.proofs.MadeLemmas.{members_faultless, members_made, members_unbroken}
use Rattle.olap_generate.proofs.running.made_members.Goals as goal

pub unreachable-requires : goal.unreachable-requires
unreachable-requires c =
    members_faultless input.seed input.size input.few (schema_of c.args.schema.now) c.requires g text c.graph.ensures
    (c.deref.ensures.value ∙ c.in_ok-text.ensures) _
    (subst (λ e. IsRefusedBy e (instance_read g (records_of text))) c.in-Err-Kind.field-0-is
    c.in-Err-Kind.ensures.read)
  where
    open c use {args.input.now as input, graph.result.now as g, deref.result.now as text}

pub returns-in-Ok-check : goal.returns-in-Ok-check
returns-in-Ok-check c =
    let input = c.args.input.now in
    members_made input.seed input.size input.few (schema_of c.args.schema.now) c.requires c.in-Ok.instance
    c.graph.result.now c.deref.result.now c.graph.ensures (c.deref.ensures.value ∙ c.in_ok-text.ensures)
    c.in-Ok.ensures.read c.in-Ok.ensures.made c.in-Ok-check.legal c.in-Ok-check.ensures.same

pub unreachable-requires-in-Err-Kind-check : goal.unreachable-requires-in-Err-Kind-check
unreachable-requires-in-Err-Kind-check c =
    let s = schema_of c.args.schema.now in
    let report = subst (IsRefused s c.in-Ok.instance) back.field-0-is back.ensures.err in
    members_unbroken input.seed input.size input.few s c.requires c.in-Ok.instance c.graph.result.now
    c.deref.result.now c.graph.ensures (c.deref.ensures.value ∙ c.in_ok-text.ensures) c.in-Ok.ensures.read
    _ report.1
  where
    open c use {args.input.now as input, in-Err-Kind-check as back}
