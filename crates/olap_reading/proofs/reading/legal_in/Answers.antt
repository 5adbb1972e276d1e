-- A text without a fault comes to the instance that it means, and one with a fault is refused.
use Rattle.std.{proofs.Common.{◌≡◌, ◌∙◌, Err, Ok, Result, ap, codes, subst}, specs.Prelude.MatchResult}
use Rattle.olap_base.specs.{Instance.Instance, Limits.most_instance_bytes, Refusing.IsRefusedBy}
use Rattle.olap_base.specs.declared.refusals.{Fault.Fault, Refusal.Refusal}
use Rattle.olap_check.specs.FirstViolation.{first_violation}
use Rattle.olap_instance.{proofs.MeaningLemmas.{instance-named, meant-instance}, specs.InstanceMeaning.instance_meant}
use Rattle.olap_instance.specs.{InstanceText.instance_read, Kinds.name_of_kind}
use Rattle.olap_instance.specs.declared.refusals.InstanceKind.{InstanceKind}
use Rattle.olap_order.specs.{Order.and_then, Refusals.part_text, Steps.meaning_or_fault}
use Rattle.olap_records.specs.{Records.records_of, Tables.named}
use Rattle.olap_schema.specs.Schemas.{schema_of}
use Rattle.olap_reading.{proofs.ReadingLemmas.{fault_told, step_told}, specs.Steps.legal_or_violation}
use Rattle.olap_base.specs.declared.refusals.Refusal.TheVariants as refusal
use Rattle.olap_reading.proofs.reading.legal_in.Goals as goal

pub returns-in-Ok-clause-step : goal.returns-in-Ok-clause-step
returns-in-Ok-clause-step g c =
    let s = schema_of c.args.schema.now in
    let given = subst (λ (r : Result Instance (Refusal (Fault InstanceKind))). MatchResult r
    (λ i. instance_read c.graph.result.now (records_of c.deref.result.now) ≡ Ok i)
    (λ x. IsRefusedBy x (instance_read c.graph.result.now (records_of c.deref.result.now)))) c.in-Ok.is
    c.read_instance-read.ensures.read in
    let read = rw (c.graph.ensures, c.deref.ensures.value) at given in
    step_told label c.args.file.now most_instance_bytes
    (λ t. and_then (meaning_or_fault label (codes "record") (instance_meant s.graph (records_of t)))
    (λ i. legal_or_violation label s i (first_violation s i)))
    c.in-Some.text.items (legal_or_violation label s members (first_violation s members))
    (ap (λ r. and_then (meaning_or_fault label (codes "record") r)
    (λ i. legal_or_violation label s i (first_violation s i)))
    (meant-instance s.graph (records_of c.in-Some.text.items) members read))
    (rw c.in-Some.is at c.in_ok-text.ensures.within) (rw c.in-Some.is at c.in_ok-text.ensures.read)
    c.in_ok-text.ensures.later c.in_ok-text.ensures.contents c.legal_or_refused.result c.legal_or_refused.ensures.step
  where
    open c use {args.label.now as label, in-Ok.members}

pub returns-in-Err-Kind-clause-step : goal.returns-in-Err-Kind-clause-step
returns-in-Err-Kind-clause-step g c =
    let s = schema_of c.args.schema.now in
    let is : c.read_instance-read.result ≡ Err e.field-0 = e.is in
    let fault : e.field-0 ≡ refusal.Kind e.fault = rw is at e.field-0-is in
    let whole : c.read_instance-read.result ≡ Err (refusal.Kind e.fault) = cc in
    let given = subst (λ (r : Result Instance (Refusal (Fault InstanceKind))). MatchResult r
    (λ i. instance_read c.graph.result.now (records_of c.deref.result.now) ≡ Ok i)
    (λ x. IsRefusedBy x (instance_read c.graph.result.now (records_of c.deref.result.now)))) whole
    c.read_instance-read.ensures.read in
    let read = rw (c.graph.ensures, c.deref.ensures.value) at given in
    fault_told label c.args.file.now most_instance_bytes
    (λ t. and_then (meaning_or_fault label (codes "record") (instance_meant s.graph (records_of t)))
    (λ i. legal_or_violation label s i (first_violation s i)))
    c.in-Some.text.items (part_text label (codes "record") e.fault.at (name_of_kind e.fault.kind))
    (ap (λ r. and_then (meaning_or_fault label (codes "record") r)
    (λ i. legal_or_violation label s i (first_violation s i)))
    (instance-named s.graph (records_of c.in-Some.text.items) ∙ ap (named name_of_kind) read))
    (rw c.in-Some.is at c.in_ok-text.ensures.within) (rw c.in-Some.is at c.in_ok-text.ensures.read)
    c.in_ok-text.ensures.later c.in_ok-text.ensures.contents c.refuse_part.result
    (rw c.name.ensures at c.refuse_part.ensures.refused)
  where
    open c use {args.label.now as label, in-Err-Kind as e}
