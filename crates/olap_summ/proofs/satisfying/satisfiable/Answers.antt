use Rattle.std.{proofs.Common.{◌↔◌, refl}, proofs.lemmas.Result.IfOk-weaker, specs.Prelude.IsNone}
use Rattle.olap_ast.{proofs.SourceLemmas.no_more_constants, specs.Findings.IsUnsatisfiable, specs.Formula.Formula.Truth}
use Rattle.olap_schema.specs.Schemas.{schema_of}
use Rattle.olap_summ.{proofs.NowhereLemmas.unsatisfiable_is, specs.Answers.IsNowhere}
use Rattle.olap_summ.proofs.satisfying.satisfiable.Goals as goal

pub found-requires-clause-few : goal.found-requires-clause-few
found-requires-clause-few c =
    no_more_constants (schema_of c.args.schema.now) Truth c.constraints-valid.ensures.valid refl refl

pub returns-clause-none : goal.returns-clause-none
returns-clause-none c =
    let s = schema_of c.args.schema.now in
    IfOk-weaker c.found.result (λ o. IsNone o ↔ IsNowhere s Truth c.args.c.0)
    (λ o. IsNone o ↔ IsUnsatisfiable s c.args.c.0) (λ o h. unsatisfiable_is s c.args.c.0 (IsNone o) h)
    c.found.ensures.none
