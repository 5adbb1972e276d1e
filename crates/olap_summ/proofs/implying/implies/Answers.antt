use Rattle.std.{proofs.Common.{◌↔◌, subst}, proofs.lemmas.Result.IfOk-weaker, specs.Prelude.IsNone}
use Rattle.olap_ast.specs.{Formula.Formula, Questions.IsImplied, Trees.formula_of}
use Rattle.olap_schema.specs.Schemas.{schema_of}
use Rattle.olap_summ.{proofs.NowhereLemmas.implied_is, specs.Answers.IsNowhere}
use Rattle.olap_summ.proofs.implying.implies.Goals as goal

pub returns-clause-none : goal.returns-clause-none
returns-clause-none c =
    let s = schema_of c.args.schema.now in
    let r = c.args.root.0 in
    let f = formula_of c.args.f.now in
    IfOk-weaker c.found.result (λ o. IsNone o ↔ IsNowhere s (formula_of c.in_ok-negated.negated) r)
    (λ o. IsNone o ↔ IsImplied s r f)
    (λ o h. implied_is s r f (IsNone o)
    (subst (λ (q : Formula). IsNone o ↔ IsNowhere s q r) c.in_ok-negated.ensures h))
    c.found.ensures.none

pub returns-clause-some : goal.returns-clause-some
returns-clause-some c =
    let s = schema_of c.args.schema.now in rw c.in_ok-negated.ensures at c.found.ensures.some
