use Rattle.olap_order.proofs.Stepping.{answered, ended, followed}
use Rattle.olap_totals.proofs.changing.by_facts.Goals as goal

pub returns-in_err-changed : goal.returns-in_err-changed
returns-in_err-changed g c = record { judged = ended c.in_err-changed.ensures.step _ c.from_residual.ensures.1 }

pub returns : goal.returns
returns g c = record {
  judged = followed c.in_ok-changed.ensures.step _ (answered c.told.result c.told.ensures.replies);
}
