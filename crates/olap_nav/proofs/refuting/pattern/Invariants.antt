-- The ways among the views so far.
use Rattle.std.proofs.Common.{◌≡◌, length, take}
use Rattle.olap_base.specs.Graph.{category_count}
use Rattle.olap_nav.specs.Patterns.{AreWays, found_instance, found_root}
use Rattle.olap_schema.specs.Schemas.{schema_of}
use Rattle.olap_view.specs.Seen.{each_view_of}
use Rattle.olap_nav.proofs.refuting.pattern.Given as goal

abbrev pub invariant-views : goal.invariant-views
invariant-views l = record {
  ways : AreWays (found_instance (schema_of l.schema) l.found) (found_root (schema_of l.schema) l.found) l.target.0
      (each_view_of (take l.view-index l.store.views)) l.pattern.items;
  count : length l.pattern.items ≡ l.view-index;
  room : length l.room.rows.items ≡ category_count (schema_of l.schema).graph;
}
