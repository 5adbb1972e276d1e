use Rattle.std.{proofs.Common.{◌≡◌, ◌∙◌, List, map, true, false, ap, subst, sym}, specs.Prelude.◌==◌}
use Rattle.olap_base.specs.{Graph.Graph, Instance.Instance}
use Rattle.olap_breaks.specs.{Breaks.{breaks, breaks_text}, Seen.{break_seen, ids}, declared.finding.Break.Break}
use Rattle.olap_schema.specs.Schemas.{schema_of}
use Rattle.olap_totals.proofs.BreakingLemmas.{told_none, told_some}
use Rattle.olap_totals.proofs.breaking.told.Goals as goal

pub returns-then-is_empty : goal.returns-then-is_empty
returns-then-is_empty c =
    let g = (schema_of c.args.schema.now).graph in
    let sources = ids c.args.sources.now in
    let told = c.in_ok-found.ensures.told ∙ ap (λ (h : Graph). breaks h i c.args.target.0 sources) c.graph.ensures in
    let text = c.yes.ensures.bytes ∙ c.in_ok-text.ensures
    ∙ ap (λ (j : Instance). breaks_text j (map break_seen c.deref.result.now)) c.instance.ensures
    ∙ ap (λ (xs : List Break). breaks_text i (map break_seen xs)) c.deref.ensures.value in
    record {
      replies = told_none i found (breaks g i c.args.target.0 sources) c.yes.result told
          (subst (λ n. (n == 0) ≡ true) c.in_ok-found.found.ok.0 (sym c.is_empty.ensures ∙ c.if-is_empty.true))
          c.yes.ensures.status text;
    }
  where
    open c use {args.legal.now as i, in_ok-found.found.items as found}

pub returns : goal.returns
returns c =
    let g = (schema_of c.args.schema.now).graph in
    let sources = ids c.args.sources.now in
    let told = c.in_ok-found.ensures.told ∙ ap (λ (h : Graph). breaks h i c.args.target.0 sources) c.graph.ensures in
    let text = c.no.ensures.bytes ∙ c.in_ok-text.ensures
    ∙ ap (λ (j : Instance). breaks_text j (map break_seen c.deref.result.now)) c.instance.ensures
    ∙ ap (λ (xs : List Break). breaks_text i (map break_seen xs)) c.deref.ensures.value in
    record {
      replies = told_some i found (breaks g i c.args.target.0 sources) c.no.result told
          (subst (λ n. (n == 0) ≡ false) c.in_ok-found.found.ok.0 (sym c.is_empty.ensures ∙ c.if-is_empty.false))
          c.no.ensures.status text;
    }
  where
    open c use {args.legal.now as i, in_ok-found.found.items as found}
