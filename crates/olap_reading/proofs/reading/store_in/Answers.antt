-- A text with a fault is refused; the views of a text are in file order.
use Rattle.std.proofs.Common.{◌∙◌, All, Ok, ap, codes, refl, subst}
use Rattle.olap_base.specs.{Instance.Instance, Limits.most_store_bytes}
use Rattle.olap_order.specs.{Order.Done, Refusals.part_text, Steps.meaning_or_fault}
use Rattle.olap_records.specs.{Records.records_of, Tables.named}
use Rattle.olap_schema.specs.Schemas.{schema_of}
use Rattle.olap_view.{proofs.StoreMeaningLemmas.{meant-store, store-named}, specs.Kinds.name_of_kind}
use Rattle.olap_view.specs.{Seen.views_of, StoreMeaning.store_meant, Stores.IsInFileOrder}
use Rattle.olap_reading.proofs.ReadingLemmas.{fault_told, step_told}
use Rattle.olap_reading.proofs.reading.store_in.Goals as goal

pub returns-in-Ok-clause-order : goal.returns-in-Ok-clause-order
returns-in-Ok-clause-order g c =
    subst (λ (j : Instance). All (IsInFileOrder j) (views_of c.in-Ok.store)) c.instance.ensures c.in-Ok.ensures.order

pub returns-in-Ok-clause-step : goal.returns-in-Ok-clause-step
returns-in-Ok-clause-step g c =
    let label = c.args.label.now in
    let graph = (schema_of c.args.schema.now).graph in
    let views = views_of c.in-Ok.store in
    let read = rw (c.graph.ensures, c.instance.ensures, c.deref.ensures.value) at c.in-Ok.ensures.read in
    step_told label c.args.file.now most_store_bytes
    (λ t. meaning_or_fault label (codes "record") (store_meant graph c.args.legal.now (records_of t)))
    c.in-Some.text.items (Done views)
    (ap (meaning_or_fault label (codes "record"))
    (meant-store graph c.args.legal.now (records_of c.in-Some.text.items) views read))
    (rw c.in-Some.is at c.in_ok-text.ensures.within) (rw c.in-Some.is at c.in_ok-text.ensures.read)
    c.in_ok-text.ensures.later c.in_ok-text.ensures.contents (Ok c.in-Ok.store)
    (record { comes_out = refl; ends = tt })

pub returns-in-Err-Kind-clause-step : goal.returns-in-Err-Kind-clause-step
returns-in-Err-Kind-clause-step g c =
    let read = rw (e.field-0-is, c.graph.ensures, c.instance.ensures, c.deref.ensures.value) at e.ensures.read in
    fault_told label c.args.file.now most_store_bytes
    (λ t. meaning_or_fault label (codes "record") (store_meant (schema_of c.args.schema.now).graph
    c.args.legal.now (records_of t)))
    c.in-Some.text.items (part_text label (codes "record") e.fault.at (name_of_kind e.fault.kind))
    (ap (meaning_or_fault label (codes "record")) (store-named (schema_of c.args.schema.now).graph c.args.legal.now
    (records_of c.in-Some.text.items) ∙ ap (named name_of_kind) read))
    (rw c.in-Some.is at c.in_ok-text.ensures.within) (rw c.in-Some.is at c.in_ok-text.ensures.read)
    c.in_ok-text.ensures.later c.in_ok-text.ensures.contents c.refuse_part.result
    (rw c.name.ensures at c.refuse_part.ensures.refused)
  where
    open c use {args.label.now as label, in-Err-Kind as e}
