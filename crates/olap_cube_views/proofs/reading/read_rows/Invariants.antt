-- The records seen so far have no fault, and these are their facts.
use Rattle.std.proofs.Common.{◌≡◌, ◌≤◌, ℕ, List, length, map}
use Rattle.olap_base.specs.Limits.{most_listed_facts}
use Rattle.olap_cube.specs.CubeViews.{IsCubeFactTable}
use Rattle.olap_records.proofs.Seeing.{HasSeen}
use Rattle.olap_cube_views.specs.{CubeFactText.{cube_fact_fault, cube_fact_read}, Dimensions.{graphs_of, instances_of}}
use Rattle.olap_cube_views.specs.Seen.{cube_fact_of}
use Rattle.olap_cube_views.proofs.reading.read_rows.Given as goal

abbrev pub invariant-rows : goal.invariant-rows
invariant-rows l = record {
  seen : List (List (List ℕ));
  has_seen : HasSeen (cube_fact_fault (graphs_of l.graphs) (instances_of l.instances)) l.fn.rows.left seen l.rows.left;
  facts : map cube_fact_of l.facts.items ≡ map (cube_fact_read (instances_of l.instances)) seen;
  table : IsCubeFactTable (graphs_of l.graphs) (instances_of l.instances) (map cube_fact_of l.facts.items);
  few : length l.facts.items ≤ most_listed_facts;
}

abbrev pub decreases-rows : goal.decreases-rows
decreases-rows l = length l.rows.left
