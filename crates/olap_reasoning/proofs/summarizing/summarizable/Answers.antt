use Rattle.std.proofs.Common.{List, subst}
use Rattle.olap_base.specs.declared.ids.CatId.{CatId}
use Rattle.olap_schema.specs.Schemas.{schema_of}
use Rattle.olap_ast.specs.Trees.{numbers_of}
use Rattle.olap_order.{proofs.Stepping.{ended_unread, followed_unread}, specs.Judged.Replies, specs.Order.Done}
use Rattle.olap_reasoning.specs.{Questions.IsAnswer, Seen.question_of}
use Rattle.olap_reasoning.proofs.summarizing.summarizable.Goals as goal

pub returns-in_err-target : goal.returns-in_err-target
returns-in_err-target c = record {
  replies = ended_unread c.in_err-target.ensures.step _ _ c.from_residual.ensures.1;
}

pub returns-in_err-sources : goal.returns-in_err-sources
returns-in_err-sources c = record {
  replies = followed_unread c.in_ok-target.ensures.step _
      (ended_unread c.in_err-sources.ensures.step _ _ c.from_residual-in_err-sources.ensures.1);
}

pub returns : goal.returns
returns c = record {
  replies = followed_unread c.in_ok-target.ensures.step _ (followed_unread c.in_ok-sources.ensures.step _
      (subst (λ (xs : List CatId). Replies IsAnswer
      (Done (question_of c.args.wanted (schema_of c.args.schema.now) c.in_ok-target.target.0 (numbers_of xs)))
      c.answered.result) c.deref.ensures.value c.answered.ensures.replies));
}
