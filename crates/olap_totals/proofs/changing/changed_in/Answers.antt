-- A sound store stays one, and a text or a fact is refused.
use Rattle.std.proofs.Common.{◌≡◌, ◌∙◌, Err, Ok, ap, arith, subst}
use Rattle.olap_base.specs.{Graph.Graph, Limits.most_facts}
use Rattle.olap_facts.specs.FactText.{facts_read_within}
use Rattle.olap_records.specs.Records.{records_of}
use Rattle.olap_schema.specs.Schemas.{schema_of}
use Rattle.olap_view.specs.Seen.{views_of}
use Rattle.olap_delta.specs.{Changing.step_of, Reading.views_changed}
use Rattle.olap_reading.specs.Rest.{IsOfRest}
use Rattle.olap_totals.{proofs.FeedingLemmas.{change_in, change_out}, specs.Feeding.{IsChangedBy, IsWhyUnchanged}}
use Rattle.olap_totals.specs.declared.feeding.Unchanged.{Unchanged}
use Rattle.olap_totals.specs.declared.feeding.Unchanged.TheVariants as unchanged
use Rattle.olap_totals.proofs.changing.changed_in.Goals as goal

pub returns-in-Ok-changed_by_rest-clause-sound : goal.returns-in-Ok-changed_by_rest-clause-sound
returns-in-Ok-changed_by_rest-clause-sound g c =
    c.in-Ok-changed_by_rest.ensures.changed.so.sound (schema_of c.args.schema.now).graph c.requires.sound

pub returns-in-Ok-changed_by_rest-clause-step : goal.returns-in-Ok-changed_by_rest-clause-step
returns-in-Ok-changed_by_rest-clause-step g c =
    let views = views_of c.args.store.now in
    let rest = g.L.Library.rest c.open_file.new.self in
    let so = subst (λ (h : Graph). IsOfRest rest (λ text. IsChangedBy c.args.change h i views (records_of text)
    (Ok ok.changed))) c.graph.ensures ok.ensures.changed in
    change_in c.args.change (schema_of c.args.schema.now) i views c.args.file.now rest c.in-Ok.ensures.opened
    (c.changed_by_rest.ensures.kept.contents ∙ c.open_file.ensures.contents)
    (record {
      faults = omega (arith, c.open_file.ensures.cause.later, c.changed_by_rest.ensures.later);
      sure = c.changed_by_rest.ensures.kept.sure ∙ c.open_file.ensures.sure;
    })
    ok.changed (record { text = so.text; told = so.told; so = so.so.ok })
  where
    open c use {args.legal.now as i, in-Ok-changed_by_rest as ok}

pub returns-in-Err-Refused-Kind-clause-step : goal.returns-in-Err-Refused-Kind-clause-step
returns-in-Err-Refused-Kind-clause-step g c =
    let step = step_of c.args.change in
    let views = views_of c.args.store.now in
    let rest = g.L.Library.rest c.open_file.new.self in
    let why = subst (λ (u : Unchanged). IsWhyUnchanged step c.graph.result.now i views rest u)
    (e.field-0-is ∙ ap unchanged.Refused e.field-0-0-is) e.ensures.fault in
    let so = subst (λ (h : Graph). IsOfRest rest (λ text.
    views_changed step i views (facts_read_within most_facts h i (records_of text)) ≡ Err e.fault))
    c.graph.ensures why in
    change_out c.args.change (schema_of c.args.schema.now) i views c.args.file.now rest c.in-Ok.ensures.opened
    (c.changed_by_rest.ensures.kept.contents ∙ c.open_file.ensures.contents)
    (record {
      faults = omega (arith, c.open_file.ensures.cause.later, c.changed_by_rest.ensures.later);
      sure = c.changed_by_rest.ensures.kept.sure ∙ c.open_file.ensures.sure;
    })
    e.fault so c.refuse_part.result (rw c.name.ensures at c.refuse_part.ensures.refused)
  where
    open c use {args.legal.now as i, in-Err-Refused-Kind as e}
