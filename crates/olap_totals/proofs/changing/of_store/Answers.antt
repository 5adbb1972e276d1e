use Rattle.olap_order.proofs.Stepping.{ended, followed}
use Rattle.olap_totals.proofs.changing.of_store.Goals as goal

pub returns-in_err-store : goal.returns-in_err-store
returns-in_err-store g c = record { judged = ended c.in_err-store.ensures.step _ c.from_residual.ensures.1 }

pub returns : goal.returns
returns g c = record { judged = followed c.in_ok-store.ensures.step _ c.by_facts.ensures.judged }
