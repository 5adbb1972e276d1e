-- One field more, or none is left.
use Rattle.std.proofs.{Common.{◌<◌, [], length, rules, arith}, lemmas.Grind.common_steps}
use Rattle.olap_records.specs.Faults.{first_fault}
use Rattle.olap_instance.proofs.LinkingLemmas.{fields-pass, linked-below, linked-fault, linked-parents, linked-seen}
use Rattle.olap_instance.specs.{Passes.{field_fault, ids_in}, Refusals.IsFaultCause}
use Rattle.olap_instance.proofs.linking.link_fields.Goals as goal

pub fields-preserved : goal.fields-preserved
fields-preserved c = grind (arith, common_steps, linked-seen, linked-parents, linked-below)

pub returns-in_err-link : goal.returns-in_err-link
returns-in_err-link c =
    let ids = ids_in c.args.roster.now in
    let within : child < length all =
    let t = c.fields-test.true in let n = c.len-child-end.ensures.count in omega arith in
    let cause : IsFaultCause (first_fault (field_fault ids) [] all) e =
    linked-fault ids all child c.of.result.now within c.of.ensures c.fields.parents e inv.seen inv.parents
    c.in_err-link.ensures.parents in
    search rules
  where
    open c use {fields.invariant as inv, fields.child, args.fields.now as all, in_err-link.field-0.0 as e}

pub returns : goal.returns
returns c = grind (arith, fields-pass)
