use Rattle.olap_order.proofs.Stepping.{ended, followed}
use Rattle.olap_totals.proofs.storing.of_instance.Goals as goal

pub returns-in_err-legal : goal.returns-in_err-legal
returns-in_err-legal g c = record { judged = ended c.in_err-legal.ensures.step _ c.from_residual.ensures.1 }

pub returns : goal.returns
returns g c = record { judged = followed c.in_ok-legal.ensures.step _ c.stored.ensures.judged }
