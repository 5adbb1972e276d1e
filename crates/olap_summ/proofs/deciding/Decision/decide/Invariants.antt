-- The searches before found nothing, and all stand in their places.
use Rattle.std.proofs.Common.{◌≡◌}
use Rattle.olap_schema.specs.Schemas.{schema_of}
use Rattle.olap_summ.{proofs.DecisionLemmas.{AreThose, NoneAmong}, specs.Decisions.asked_by}
use Rattle.olap_summ.proofs.deciding.Decision.decide.Given as goal

abbrev pub invariant-searches : goal.invariant-searches
invariant-searches l = record {
  those : AreThose (schema_of l.schema) (asked_by l.questions) l.fn.self.searches.items l.asked-items;
  none : NoneAmong (schema_of l.schema) (asked_by l.questions) l.asked-index l.fn.self.searches.items;
  stays : l.into ≡ l.fn.into;
}
