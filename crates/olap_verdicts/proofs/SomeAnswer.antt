-- Each question about a text, of a valid schema, has an answer.
use Rattle.std.{proofs.Common.{◌++◌, refl, inl, inr}, specs.Fmt.decimal, specs.Prelude.codes}
use Rattle.olap_ast.specs.{Questions.SourcesHaveCandidates, Summarizable.not_by_one}
use Rattle.olap_order.specs.{Outputs.line, declared.status.Status.TheVariants.{Yes, No}}
use Rattle.olap_proof.specs.Judged.{TextsAreJudged}
use Rattle.olap_verdicts.specs.{Laws.AnswersExist, Questions.ByCertificate}

-- a question about a valid schema has an answer
pub answers_exist : SourcesHaveCandidates → TextsAreJudged → AnswersExist
answers_exist candidates judged (ByCertificate f s c sources text) v =
    let k = candidates s c sources v in
    elim (judged f s (not_by_one c sources) k.0 text k.1) [
      | inl t ↦ (Yes, line (codes "accepted"), inl (refl, t, refl))
      | inr w ↦ (No, line (codes "rejected line " ++ decimal w.0), inr (refl, (w.0, w.1, refl)))
    ]
