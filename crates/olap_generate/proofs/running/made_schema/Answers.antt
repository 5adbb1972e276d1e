use Rattle.std.proofs.Common.{subst}
use Rattle.olap_schema_text.specs.{Judging.schema_read, Kinds.IsFaultOf}
use Rattle.olap_generate.{proofs.MadeLemmas.schema_faultless, specs.Location.location_text}
use Rattle.olap_generate.proofs.running.made_schema.Goals as goal

pub unreachable-requires : goal.unreachable-requires
unreachable-requires c = schema_faultless _
    (subst (λ e. IsFaultOf e (schema_read location_text)) c.in-Err-Kind.field-0-is c.in-Err-Kind.ensures)
