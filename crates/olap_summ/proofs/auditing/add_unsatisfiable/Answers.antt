use Rattle.std.proofs.Common.{ap, ◌∙◌, arith}
use Rattle.olap_schema.specs.Schemas.{schema_of}
use Rattle.olap_summ.proofs.{FindingLemmas.{added, none_added, not_unsatisfiable}, SightLemmas.settled_next}
use Rattle.olap_summ.proofs.auditing.add_unsatisfiable.Goals.{then-not-branch+in_ok-push, else-not-branch}
use Rattle.olap_summ.specs.Audits.{unsatisfiable}
use Rattle.olap_summ.specs.declared.auditing.Finding.TheVariants as found
use Rattle.olap_summ.proofs.auditing.add_unsatisfiable.Goals as goal

pub categories-preserved : goal.categories-preserved
categories-preserved c = record {
  seen = told.seen;
  settled = settled_next (schema_of c.args.schema.now) n c.categories.seen c.can_have_member.new.seen
      c.in_ok-can_have_member.field-0 told.kept before.settled told.no told.yes;
  found = elim c.if-not-branch.branch [
    | then-not-branch+in_ok-push w ↦
        added (schema_of c.args.schema.now) _ _ (found.Unsatisfiable (record { 0 = n })) before.found (
          (
            λ e. omega (arith, c.categories.auto.c, e),
            rw (c.categories-c-end.ensures.count, c.graph.ensures) at
                c.categories-test.true,
          ),
          told.no w.if-not-branch.true,
        )
        (ap (λ v. v.items) w.findings-is ∙ w.in_ok-push.ensures.items)
    | else-not-branch w ↦ none_added (schema_of c.args.schema.now) unsatisfiable n before.found
        (not_unsatisfiable _ n (told.seen.categories n (told.yes w.if-not-branch.false)))
        (ap (λ v. v.items) w.findings-is)
  ];
}
  where
    open c use {categories.c as n, categories.invariant as before, in_ok-can_have_member.ensures as told}
