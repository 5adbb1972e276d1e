-- A schema that isn't read ends the order; else what is left of it is judged.
use Rattle.olap_order.proofs.Stepping.{ended, followed}
use Rattle.olap_plans.proofs.answering.answer.Goals as goal

pub returns-in_err-schema : goal.returns-in_err-schema
returns-in_err-schema g c = record { judged = ended c.in_err-schema.ensures.step _ c.from_residual.ensures.1 }

pub returns : goal.returns
returns g c = record { judged = followed c.in_ok-schema.ensures.step _ c.answer_under_schema.ensures.judged }
