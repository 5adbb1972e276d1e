use Rattle.std.proofs.Common.{List, subst}
use Rattle.olap_base.specs.declared.ids.CatId.{CatId}
use Rattle.olap_schema.specs.Schemas.{schema_of}
use Rattle.olap_view.specs.Seen.{ids}
use Rattle.olap_order.{proofs.Stepping.{ended, followed, unread}, specs.Judged.Judged}
use Rattle.olap_totals.specs.{Questions.IsAnswer, Under.store_of}
use Rattle.olap_totals.proofs.storing.store.Goals as goal

pub returns-in_err-categories : goal.returns-in_err-categories
returns-in_err-categories g c = record {
  judged = ended (unread _ c.in_err-categories.ensures.step) _ c.from_residual.ensures.1;
}

pub returns : goal.returns
returns g c = record {
  judged = followed (unread _ c.in_ok-categories.ensures.step) _
      (subst (λ (xs : List CatId). Judged IsAnswer g.L.Library c.args.lib.now c.of_instance.new.lib
      (store_of (schema_of c.args.schema.now) c.args.instance.now c.args.facts.now (ids xs)) c.of_instance.result)
      c.deref.ensures.value c.of_instance.ensures.judged);
}
