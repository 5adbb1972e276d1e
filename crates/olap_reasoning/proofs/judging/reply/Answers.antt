use Rattle.std.proofs.Common.{sym, subst}
use Rattle.olap_order.specs.Judged.{Replies}
use Rattle.olap_schema.specs.Schemas.{schema_of}
use Rattle.olap_reasoning.specs.{Questions.IsAnswer, Seen.seen_under}
use Rattle.olap_reasoning.proofs.judging.reply.Goals as goal

pub returns-in-Summarizable : goal.returns-in-Summarizable
returns-in-Summarizable c = record {
  replies = subst (λ m. Replies IsAnswer (seen_under (schema_of c.args.schema.now) m) c.summarizable.result)
      (sym c.in-Summarizable.is) c.summarizable.ensures.replies;
}
