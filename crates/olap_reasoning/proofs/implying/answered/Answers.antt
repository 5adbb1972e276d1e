use Rattle.std.{proofs.Common.{◌≤◌, subst}, specs.Prelude.IfSome}
use Rattle.olap_ast.{proofs.ComparedLemmas.constants_counted, specs.Formula.Formula.Not, specs.Trees.formula_of}
use Rattle.olap_base.specs.Limits.{most_constants}
use Rattle.olap_frozen.specs.LeastFound.{IsLeastFound}
use Rattle.olap_schema.specs.Schemas.{schema_of}
use Rattle.olap_reasoning.proofs.{CertificateLemmas.{all_texts, found_for, unmet_shown}, ReplyLemmas.replies_or_memory}
use Rattle.olap_reasoning.proofs.implying.answered.Goals as goal

pub implies-requires-clause-few : goal.implies-requires-clause-few
implies-requires-clause-few c =
    let s = schema_of c.args.schema.now in
    subst (λ n. n ≤ most_constants) (constants_counted s.constraints (formula_of c.args.formula.now))
    c.requires.question.constants_fit

pub shown-requires : goal.shown-requires
shown-requires c =
    let s = schema_of c.args.schema.now in
    let q = formula_of c.args.formula.now in
    let least = subst (λ o. IfSome o (IsLeastFound s (Not q) c.args.root.0)) c.in-Some.is
    c.in_ok-implies.ensures.some in
    found_for s (Not q) c.args.root.0 c.in-Some.found c.requires.question.declared.1 least
    (all_texts s (Not q) c.constraints-constraints.ensures.texts c.requires.texts)

pub returns-in-Some : goal.returns-in-Some
returns-in-Some c =
    let s = schema_of c.args.schema.now in
    let q = formula_of c.args.formula.now in
    let least = subst (λ o. IfSome o (IsLeastFound s (Not q) c.args.root.0)) c.in-Some.is
    c.in_ok-implies.ensures.some in
    record {
      replies = replies_or_memory c.shown.result c.shown.ensures.status c.shown.ensures.text c.shown.ensures.memory
          (unmet_shown s c.args.root.0 q c.in-Some.found least);
    }
