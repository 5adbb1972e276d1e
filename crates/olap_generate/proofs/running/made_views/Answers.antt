use Rattle.std.proofs.Common.{subst}
use Rattle.olap_base.specs.{Limits.most_facts, Refusing.IsRefusedBy}
use Rattle.olap_facts.specs.FactText.{facts_read_within}
use Rattle.olap_records.specs.Records.{records_of}
use Rattle.olap_schema.specs.Schemas.{schema_of}
use Rattle.olap_view.specs.Seen.{each_view_of}
use Rattle.olap_generate.proofs.MadeLemmas.{facts_faultless, views_made}
use Rattle.olap_generate.proofs.running.made_views.Goals as goal

pub returns-in-Ok-clause-views : goal.returns-in-Ok-clause-views
returns-in-Ok-clause-views c =
    let input = c.args.input.now in
    views_made input.seed input.size input.few (schema_of c.args.schema.now) c.requires.schema_text c.args.legal.now
    c.requires.member_text c.graph.result.now c.in_ok-text.text.items (each_view_of c.in-Ok.views) c.graph.ensures
    c.in_ok-text.ensures c.in-Ok.ensures.views c.requires.legal

pub unreachable-requires : goal.unreachable-requires
unreachable-requires c =
    facts_faultless input.seed input.size input.few (schema_of c.args.schema.now) c.requires.schema_text
    c.args.legal.now c.requires.member_text g text
    c.graph.ensures c.in_ok-text.ensures _
    (subst (λ e. IsRefusedBy e (facts_read_within most_facts g c.args.legal.now (records_of text)))
    c.in-Err-Kind.field-0-is c.in-Err-Kind.ensures.err)
  where
    open c use {args.input.now as input, graph.result.now as g, in_ok-text.text.items as text}
