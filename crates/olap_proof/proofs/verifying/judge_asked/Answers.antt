use Rattle.std.{proofs.Common.{◌≡◌, ℕ, refl, subst, sym}, specs.Prelude.{IfSome, IsNone, Option}}
use Rattle.olap_proof.specs.{Asking.{names_in, question_in, schema_in}, Certificates.IsFirstWrong}
use Rattle.olap_proof.proofs.verifying.judge_asked.Goals as goal

pub returns-in-None-clause-ok : goal.returns-in-None-clause-ok
returns-in-None-clause-ok c =
    c.in_ok-first_wrong.ensures.none (subst (λ (o : Option ℕ). IsNone o) (sym c.in-None.is) refl)

pub returns-in-Some-clause-rejected : goal.returns-in-Some-clause-rejected
returns-in-Some-clause-rejected c = λ line e.
    let a = c.args.asked.now in
    let wrong = IsFirstWrong c.args.form (schema_in a) (question_in a) (names_in a) c.args.text.now in
    let number : c.in-Some.line ≡ line = cc in
    subst (λ n. wrong n) number
    (subst (λ (o : Option ℕ). IfSome o wrong) c.in-Some.is c.in_ok-first_wrong.ensures.some)
