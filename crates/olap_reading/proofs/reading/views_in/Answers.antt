-- The facts of a text are those in the file, and a text with a fault is refused.
use Rattle.std.proofs.Common.{◌≡◌, ◌∙◌, Err, ap, arith, subst}
use Rattle.olap_base.specs.{Graph.Graph, Limits.most_facts}
use Rattle.olap_facts.specs.FactText.{facts_read_within}
use Rattle.olap_records.specs.Records.{records_of}
use Rattle.olap_schema.specs.Schemas.{schema_of}
use Rattle.olap_view.specs.{RollingUp.AreRolledUp, Seen.{each_view_of, ids}}
use Rattle.olap_reading.{proofs.RollingLemmas.{facts-out, fault-out}, specs.Rest.{IsOfRest, IsWhyUnrolled}}
use Rattle.olap_reading.specs.declared.rolling.Unrolled.{Unrolled}
use Rattle.olap_reading.specs.declared.rolling.Unrolled.TheVariants as unrolled
use Rattle.olap_reading.proofs.reading.views_in.Goals as goal

pub returns-in-Ok-rolled_up-clause-step : goal.returns-in-Ok-rolled_up-clause-step
returns-in-Ok-rolled_up-clause-step g c =
    let rest = g.L.Library.rest c.open_file.new.self in
    let categories = ids c.args.categories.now in
    let so = subst (λ (h : Graph). IsOfRest rest (λ text. AreRolledUp h i (records_of text) categories
    (each_view_of ok.views))) c.graph.ensures ok.ensures.views in
    facts-out (schema_of c.args.schema.now) i c.args.file.now rest c.in-Ok.ensures.opened
    (c.rolled_up.ensures.kept.contents ∙ c.open_file.ensures.contents)
    (record {
      faults = omega (arith, c.open_file.ensures.cause.later, c.rolled_up.ensures.later);
      sure = c.rolled_up.ensures.kept.sure ∙ c.open_file.ensures.sure;
    })
    categories (each_view_of ok.views) so
  where
    open c use {args.legal.now as i, in-Ok-rolled_up as ok}

pub returns-in-Err-Refused-Kind-clause-step : goal.returns-in-Err-Refused-Kind-clause-step
returns-in-Err-Refused-Kind-clause-step g c =
    let lib = g.L.Library in
    let rest = lib.rest c.open_file.new.self in
    let why = subst (λ (u : Unrolled). IsWhyUnrolled c.graph.result.now i rest u)
    (e.field-0-is ∙ ap unrolled.Refused e.field-0-0-is) e.ensures.fault in
    let so = subst (λ (h : Graph). IsOfRest rest (λ text. facts_read_within most_facts h i (records_of text)
    ≡ Err e.fault)) c.graph.ensures why in
    fault-out (schema_of c.args.schema.now) i c.args.file.now rest c.in-Ok.ensures.opened
    (c.rolled_up.ensures.kept.contents ∙ c.open_file.ensures.contents)
    (record {
      faults = omega (arith, c.open_file.ensures.cause.later, c.rolled_up.ensures.later);
      sure = c.rolled_up.ensures.kept.sure ∙ c.open_file.ensures.sure;
    })
    e.fault so c.refuse_part.result (rw c.name.ensures at c.refuse_part.ensures.refused)
  where
    open c use {args.legal.now as i, in-Err-Refused-Kind as e}
