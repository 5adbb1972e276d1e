-- A step that fails ends the order; else the stored views are judged.
use Rattle.olap_order.proofs.Stepping.{ended, followed, unread}
use Rattle.olap_plans.proofs.answering.answer_under_schema.Goals as goal

pub returns-in_err-target : goal.returns-in_err-target
returns-in_err-target g c = record {
  judged = ended (unread _ c.in_err-target.ensures.step) _ c.from_residual.ensures.1;
}

pub returns-in_err-legal : goal.returns-in_err-legal
returns-in_err-legal g c = record {
  judged = followed (unread _ c.in_ok-target.ensures.step) _
      (ended c.in_err-legal.ensures.step _ c.from_residual-in_err-legal.ensures.1);
}

pub returns : goal.returns
returns g c = record {
  judged = followed (unread _ c.in_ok-target.ensures.step) _
      (followed c.in_ok-legal.ensures.step _ c.of_store.ensures.judged);
}
