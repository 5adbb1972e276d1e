use Rattle.std.proofs.{Common.{List, ◌++◌, ◌∙◌, ap, codes, decimal, length, map, sym, subst}, lemmas.List.length-map}
use Rattle.std.{proofs.lemmas.List.Elements.Contains-get_or, specs.Prelude.{All, flat_map}}
use Rattle.olap_ast.specs.Findings.{IsFinding}
use Rattle.olap_base.proofs.ListLemmas.{Contains-map}
use Rattle.olap_schema.specs.Schemas.{schema_of}
use Rattle.olap_summ.specs.{Audits.finding_of, declared.auditing.Finding.Finding}
use Rattle.olap_order.specs.Outputs.{line}
use Rattle.olap_reasoning.{proofs.ListingLemmas.findings_listed, specs.Listings.finding_text}
use Rattle.olap_reasoning.proofs.auditing.audit.Goals as goal

pub listed-requires : goal.listed-requires
listed-requires c =
    let s = schema_of c.args.schema.now in
    let all = c.in_ok-findings.findings in
    subst (λ (fs : List Finding). All (λ f. IsFinding s (finding_of f)) fs) (sym c.items.ensures)
    (λ k d h. c.in_ok-findings.ensures.findings.sound (finding_of _)
    (Contains-map finding_of all _ (Contains-get_or all k d h)))

pub returns : goal.returns
returns c =
    let s = schema_of c.args.schema.now in
    let all = c.in_ok-findings.findings in
    record {
      replies = findings_listed s
          (map finding_of all) c.in_ok-findings.ensures.findings c.yes.result c.yes.ensures.status
          (c.yes.ensures.bytes ∙ c.in_ok-text.ensures
          ∙ (λ i. flat_map (finding_text s.graph) (map finding_of (c.items.ensures i)) ++ line (codes "findings "
          ++ decimal (length (c.items.ensures i))))
          ∙ ap (λ n. flat_map (finding_text s.graph) (map finding_of all) ++ line (codes "findings " ++ decimal n))
          (sym (length-map all finding_of)));
    }
