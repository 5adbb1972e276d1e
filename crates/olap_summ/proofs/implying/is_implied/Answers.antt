use Rattle.std.{proofs.Common.{◌↔◌, subst}, proofs.lemmas.Result.IfOk-weaker, specs.Prelude.IsTrue}
use Rattle.olap_ast.specs.{Formula.Formula, Questions.IsImplied, Trees.formula_of}
use Rattle.olap_schema.specs.Schemas.{schema_of}
use Rattle.olap_summ.{proofs.NowhereLemmas.implied_is, specs.Answers.IsNowhere}
use Rattle.olap_summ.proofs.implying.is_implied.Goals as goal

pub returns : goal.returns
returns c =
    let s = schema_of c.args.schema.now in
    let r = c.args.root.0 in
    let f = formula_of c.args.f.now in
    IfOk-weaker c.is_nowhere.result (λ b. IsTrue b ↔ IsNowhere s (formula_of c.in_ok-negated.negated) r)
    (λ b. IsTrue b ↔ IsImplied s r f)
    (λ b h. implied_is s r f (IsTrue b)
    (subst (λ (q : Formula). IsTrue b ↔ IsNowhere s q r) c.in_ok-negated.ensures h))
    c.is_nowhere.ensures
