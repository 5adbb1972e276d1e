use Rattle.std.proofs.{Common.{◌≡◌, ◌↔◌, false, refl}, lemmas.Result.IfOk-weaker}
use Rattle.olap_ast.{proofs.SourceLemmas.no_more_constants, specs.Findings.IsUnsatisfiable, specs.Formula.Formula.Truth}
use Rattle.olap_schema.specs.Schemas.{schema_of}
use Rattle.olap_summ.{proofs.NowhereLemmas.unsatisfiable_is, specs.Answers.IsNowhere}
use Rattle.olap_summ.proofs.auditing.can_have_member.Goals as goal

pub ask-requires-clause-few : goal.ask-requires-clause-few
ask-requires-clause-few c =
    no_more_constants (schema_of c.args.schema.now) Truth c.constraints-valid.ensures.valid refl refl

pub returns-clause-no : goal.returns-clause-no
returns-clause-no c =
    let s = schema_of c.args.schema.now in
    IfOk-weaker c.ask.result (λ b. b ≡ false ↔ IsNowhere s Truth c.args.c.0)
    (λ b. b ≡ false → IsUnsatisfiable s c.args.c.0) (λ b h. (unsatisfiable_is s c.args.c.0 (b ≡ false) h).0)
    c.ask.ensures.no
