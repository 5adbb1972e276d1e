use Rattle.std.proofs.{Common.{◌+◌, true≢false, refl, ap, sym, ◌∙◌, length, map, arith}, lemmas.List.length-map}
use Rattle.olap_ast.specs.Trees.{constraint_of}
use Rattle.olap_schema.specs.Schemas.{schema_of}
use Rattle.olap_summ.proofs.FindingLemmas.{added, none_added, not_redundant, redundant_found, to_edges}
use Rattle.olap_summ.proofs.auditing.add_redundant.Goals.{then-branch+in_ok-push, else-branch}
use Rattle.olap_summ.specs.Audits.{finding_of, redundant}
use Rattle.olap_summ.specs.declared.auditing.Finding.TheVariants as found
use Rattle.olap_summ.proofs.auditing.add_redundant.Goals as goal

pub constraints-preserved : goal.constraints-preserved
constraints-preserved c =
    let s = schema_of c.args.schema.now in elim c.if-branch.branch [
      | then-branch+in_ok-push w ↦ added s _ _ (found.Redundant (c.constraints.k + 1)) c.constraints.invariant
          (redundant_found s _ _ refl (c.in_ok-is_redundant.ensures.0 w.if-branch.true))
          (ap (λ v. v.items) w.findings-is ∙ w.in_ok-push.ensures.items)
      | else-branch w ↦ none_added s redundant (c.constraints.k + 1) c.constraints.invariant
          (not_redundant s _ (λ r. absurd (true≢false (sym (c.in_ok-is_redundant.ensures.1 r) ∙ w.if-branch.false))))
          (ap (λ v. v.items) w.findings-is)
    ]

pub returns : goal.returns
returns c =
    let same = ap length c.constraints-k-end.ensures.list in
    let many = length-map c.constraints-k-end.result.now constraint_of in record {
      added = to_edges (schema_of c.args.schema.now) (c.constraints.k + 1) (map finding_of c.constraints.findings.items)
          (omega (arith, c.constraints.auto.k-end)) c.constraints.invariant;
    }
