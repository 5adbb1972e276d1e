-- The families of the bottom categories so far.
use Rattle.std.proofs.Common.{◌≡◌, length}
use Rattle.olap_base.specs.Graph.{category_count}
use Rattle.olap_schema.specs.Schemas.{schema_of}
use Rattle.olap_cube_summ.proofs.BottomLemmas.{AreFamiliesBelow}
use Rattle.olap_cube_summ.proofs.bottoms.families.Given as goal

abbrev pub invariant-categories : goal.invariant-categories
invariant-categories l = record {
  families : AreFamiliesBelow (schema_of l.schema) l.question l.b l.families.items;
  room : length l.room.rows.items ≡ category_count (schema_of l.schema).graph;
}
