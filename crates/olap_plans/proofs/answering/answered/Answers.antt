-- There is no plan.
use Rattle.std.proofs.Common.{codes, inr, refl}
use Rattle.olap_schema.specs.Schemas.{schema_of}
use Rattle.olap_view.specs.Seen.{views_of}
use Rattle.olap_plans.specs.Questions.{ByPlan}
use Rattle.olap_order.proofs.Replying.{refusing}
use Rattle.olap_plans.proofs.answering.answered.Goals as goal

pub returns-in-Err-Kind : goal.returns-in-Err-Kind
returns-in-Err-Kind c =
    let e = c.in-Err-Kind in
    let none = rw e.field-0-is at e.ensures.not_answerable in
    record {
      replies = refusing (ByPlan (schema_of c.args.schema.now) c.args.legal.now
          (views_of c.args.store.now) c.args.target.0)
          (codes "answer NotAnswerable") (λ bytes is. inr (refl, none, is)) c.refuse.result c.refuse.ensures.refused;
    }
