-- Stored views that aren't read end the order; else the plan's view answers.
use Rattle.olap_order.proofs.Stepping.{answered, ended, followed}
use Rattle.olap_plans.proofs.answering.of_store.Goals as goal

pub returns-in_err-store : goal.returns-in_err-store
returns-in_err-store g c = record { judged = ended c.in_err-store.ensures.step _ c.from_residual.ensures.1 }

pub returns : goal.returns
returns g c = record {
  judged = followed c.in_ok-store.ensures.step _ (answered c.answered.result c.answered.ensures.replies);
}
