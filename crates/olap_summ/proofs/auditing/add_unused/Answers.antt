use Rattle.std.proofs.Common.{ap, ◌∙◌, length, map, arith}
use Rattle.olap_schema.specs.Schemas.{schema_of}
use Rattle.olap_summ.proofs.FindingLemmas.{added, all_found, none_added, not_unused, unused_found}
use Rattle.olap_summ.proofs.auditing.add_unused.Goals.{then-not-branch+in_ok-push, else-not-branch}
use Rattle.olap_summ.specs.Audits.{finding_of, unused}
use Rattle.olap_summ.specs.declared.auditing.Finding.TheVariants as found
use Rattle.olap_summ.proofs.auditing.add_unused.Goals as goal

pub edges-preserved : goal.edges-preserved
edges-preserved c = record {
  seen = told.seen;
  settled = told.settled;
  found = elim c.if-not-branch.branch [
    | then-not-branch+in_ok-push w ↦ added _ _ _ (found.Unused (record { 0 = e })) c.edges.invariant.found
        (unused_found _ e (rw (c.edges-e-end.ensures.count, c.graph.ensures) at c.edges-test.true)
        (told.no w.if-not-branch.true)) (ap (λ v. v.items) w.findings-is ∙ w.in_ok-push.ensures.items)
    | else-not-branch w ↦ none_added _ unused e c.edges.invariant.found
        (not_unused _ e (told.yes w.if-not-branch.false)) (ap (λ v. v.items) w.findings-is)
  ];
}
  where
    open c use {edges.e, in_ok-can_be_used.ensures as told}

pub returns : goal.returns
returns c =
    let same = c.edges-e-end.ensures.count ∙ ap (λ g. length g.edges) c.graph.ensures in record {
      added = all_found (schema_of c.args.schema.now) c.edges.e (map finding_of c.edges.findings.items)
          (omega (arith, c.edges.auto.e-end)) c.edges.invariant.found;
    }
