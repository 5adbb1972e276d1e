-- The ways among the sources so far.
use Rattle.std.proofs.Common.{◌≡◌, ℕ, ◌<◌, ◌^◌, length}
use Rattle.olap_base.specs.{Graph.category_count, Instance.IsMemberOf}
use Rattle.olap_cube_summ.specs.{Found.chosen_of, Patterns.{named_by, shape_of}, Questions.{sources_in, target_in}}
use Rattle.olap_cube_summ.specs.Ways.{HasWaysTo}
use Rattle.olap_schema.specs.Schemas.{schema_of}
use Rattle.olap_cube_summ.proofs.ways.pattern.Given as goal

abbrev pub invariant-sources : goal.invariant-sources
invariant-sources l = record {
  has : (x : ℕ) → IsMemberOf
      (shape_of (schema_of l.schema) (chosen_of (named_by l.candidates l.frozen))) l.frozen.root.0 x
      → HasWaysTo l.k (shape_of (schema_of l.schema) (chosen_of (named_by l.candidates l.frozen))) x
      (target_in l.question)
      (sources_in l.question) l.pattern;
  small : l.pattern < 2 ^ l.k;
  room : length l.room.rows.items ≡ category_count (schema_of l.schema).graph;
}
