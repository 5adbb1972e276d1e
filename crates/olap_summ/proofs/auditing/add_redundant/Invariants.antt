-- The findings among the constraints before are there.
use Rattle.std.proofs.Common.{◌+◌, map}
use Rattle.olap_schema.specs.Schemas.{schema_of}
use Rattle.olap_summ.specs.Audits.{AreFindingsBefore, finding_of, redundant}
use Rattle.olap_summ.proofs.auditing.add_redundant.Given as goal

abbrev pub invariant-constraints : goal.invariant-constraints
invariant-constraints l = AreFindingsBefore (schema_of l.schema) redundant (l.k + 1) (map finding_of l.findings.items)
