-- The findings among the categories before are there, and each of these categories is known.
use Rattle.std.proofs.Common.{map}
use Rattle.olap_schema.specs.Schemas.{schema_of}
use Rattle.olap_summ.specs.{Audits.{AreFindingsBefore, finding_of, unsatisfiable}, Sights.{AreSettled, IsSeen}}
use Rattle.olap_summ.proofs.auditing.add_unsatisfiable.Given as goal

abbrev pub invariant-categories : goal.invariant-categories
invariant-categories l = record {
  seen : IsSeen (schema_of l.schema) l.seen;
  settled : AreSettled (schema_of l.schema) l.c l.seen;
  found : AreFindingsBefore (schema_of l.schema) unsatisfiable l.c (map finding_of l.findings.items);
}
