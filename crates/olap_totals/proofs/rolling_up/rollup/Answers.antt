use Rattle.olap_order.proofs.Stepping.{ended, followed, unread}
use Rattle.olap_totals.proofs.rolling_up.rollup.Goals as goal

pub returns-in_err-category : goal.returns-in_err-category
returns-in_err-category g c = record {
  judged = ended (unread _ c.in_err-category.ensures.step) _ c.from_residual.ensures.1;
}

pub returns-in_err-legal : goal.returns-in_err-legal
returns-in_err-legal g c = record {
  judged = followed (unread _ c.in_ok-category.ensures.step) _
      (ended c.in_err-legal.ensures.step _ c.from_residual-in_err-legal.ensures.1);
}

pub returns : goal.returns
returns g c = record {
  judged = followed (unread _ c.in_ok-category.ensures.step) _
      (followed c.in_ok-legal.ensures.step _ c.view_in.ensures.judged);
}
