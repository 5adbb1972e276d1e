-- Each pattern is that of a frozen dimension, and so there are fewer that aren't known.
use Rattle.std.proofs.Common.{◌≡◌, length}
use Rattle.olap_base.specs.Graph.{category_count}
use Rattle.olap_schema.specs.Schemas.{schema_of}
use Rattle.olap_cube_summ.{proofs.BottomLemmas.left_out, specs.Patterns.AreFound}
use Rattle.olap_cube_summ.proofs.bottoms.patterns_of.Given as goal

abbrev pub invariant-patterns : goal.invariant-patterns
invariant-patterns l = record {
  sound : AreFound (schema_of l.schema) l.question l.root.0 l.patterns;
  room : length l.room.rows.items ≡ category_count (schema_of l.schema).graph;
}

abbrev pub decreases-patterns : goal.decreases-patterns
decreases-patterns l = left_out l.patterns
