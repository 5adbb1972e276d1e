use Rattle.std.proofs.Common.{List, ℕ, subst}
use Rattle.olap_base.specs.declared.ids.CatId.{CatId}
use Rattle.olap_schema.specs.Schemas.{schema_of}
use Rattle.olap_order.{proofs.Stepping.{answered, ended, followed, unread}, specs.Judged.Replies, specs.Order.Done}
use Rattle.olap_ast.specs.Trees.{numbers_of}
use Rattle.olap_verdicts.specs.Questions.{ByCertificate, IsAnswer}
use Rattle.olap_verdicts.proofs.verifying.verify_for.Goals as goal

pub returns-in_err-target : goal.returns-in_err-target
returns-in_err-target g c = record {
  judged = ended (unread _ c.in_err-target.ensures.step) _ c.from_residual.ensures.1;
}

pub returns-in_err-sources : goal.returns-in_err-sources
returns-in_err-sources g c = record {
  judged = followed (unread _ c.in_ok-target.ensures.step) _
      (ended (unread _ c.in_err-sources.ensures.step) _ c.from_residual-in_err-sources.ensures.1);
}

pub returns-in_err-text : goal.returns-in_err-text
returns-in_err-text g c = record {
  judged = followed (unread _ c.in_ok-target.ensures.step) _
      (followed (unread _ c.in_ok-sources.ensures.step) _
      (ended c.in_err-text.ensures.step _ c.from_residual-in_err-text.ensures.1));
}

pub returns : goal.returns
returns g c = record {
  judged = followed (unread _ c.in_ok-target.ensures.step) _
      (followed (unread _ c.in_ok-sources.ensures.step) _
      (followed c.in_ok-text.ensures.step _
      (answered c.told.result
      (subst (λ (xs : List CatId). Replies IsAnswer
      (Done (ByCertificate c.args.form (schema_of c.args.schema.now) c.in_ok-target.target.0 (numbers_of xs)
      c.in_ok-text.text.items)) c.told.result) c.deref.ensures.value
      (subst (λ (ys : List ℕ). Replies IsAnswer
      (Done (ByCertificate c.args.form (schema_of c.args.schema.now) c.in_ok-target.target.0
      (numbers_of c.deref.result.now) ys)) c.told.result) c.deref-2.ensures.value c.told.ensures.replies)))));
}
