use Rattle.olap_order.proofs.Stepping.{answered, ended, followed}
use Rattle.olap_reasoning.proofs.judging.run.Goals as goal

pub returns-in_err-schema : goal.returns-in_err-schema
returns-in_err-schema g c = record { judged = ended c.in_err-schema.ensures.step _ c.from_residual.ensures.1 }

pub returns : goal.returns
returns g c = record {
  judged = followed c.in_ok-schema.ensures.step _ (answered c.reply.result c.reply.ensures.replies);
}
