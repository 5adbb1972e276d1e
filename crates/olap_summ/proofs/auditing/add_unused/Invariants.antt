-- The findings among the edges before are there.
use Rattle.std.proofs.Common.{map}
use Rattle.olap_schema.specs.Schemas.{schema_of}
use Rattle.olap_summ.specs.{Audits.{AreFindingsBefore, finding_of, unused}, Sights.{AreAllSettled, IsSeen}}
use Rattle.olap_summ.proofs.auditing.add_unused.Given as goal

abbrev pub invariant-edges : goal.invariant-edges
invariant-edges l = record {
  seen : IsSeen (schema_of l.schema) l.seen;
  settled : AreAllSettled (schema_of l.schema) l.seen;
  found : AreFindingsBefore (schema_of l.schema) unused l.e (map finding_of l.findings.items);
}
