-- The lines of the findings so far.
use Rattle.std.proofs.Common.{◌≡◌, flat_map, map, take}
use Rattle.olap_schema.specs.Schemas.{schema_of}
use Rattle.olap_summ.specs.Audits.{finding_of}
use Rattle.olap_reasoning.specs.Listings.{finding_text}
use Rattle.olap_reasoning.proofs.auditing.listed.Given as goal

abbrev pub invariant-findings : goal.invariant-findings
invariant-findings l = l.text.items
    ≡ flat_map (finding_text (schema_of l.schema).graph) (map finding_of (take l.finding-index l.findings))
