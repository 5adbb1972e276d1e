-- The texts of the made input have no fault and stand for the made schema, members and facts.
use Rattle.std.proofs.Common.{◌≤◌, ℕ}
use Rattle.olap_base.specs.Limits.{most_generated}
use Rattle.olap_instance.proofs.MeaningLemmas.{meant-instance}
use Rattle.olap_generate.proofs.{FactRows.fact_rows_stand, Legal.made_is_legal}
use Rattle.olap_generate.proofs.{Location.{location_graph, location_schema}, LocationGraph.location_is_hierarchy}
use Rattle.olap_generate.proofs.{LocationText.location_is_read, Made.{made, made_facts}, Rows.rows_stand}
use Rattle.olap_generate.specs.{Inputs.IsMade, Members.member_rows}

-- the made texts stand for the made schema, members and facts
pub input_is_made : (seed size : ℕ) → size ≤ most_generated
    → IsMade seed size location_schema (made seed size) (made_facts seed size)
input_is_made seed size few = record {
  schema_text = location_is_read;
  member_text = meant-instance location_graph (member_rows seed size) (made seed size)
      (rows_stand seed size few location_is_hierarchy);
  legal = made_is_legal seed size few;
  fact_text = fact_rows_stand seed size few;
}
