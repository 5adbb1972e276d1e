-- The tally stands for the facts so far.
use Rattle.std.proofs.Common.{◌≡◌, map, take}
use Rattle.olap_cube_views.specs.{CubeTallies.CubeStandsFor, Seen.cube_fact_of}
use Rattle.olap_cube_views.proofs.viewing.add_facts.Given as goal

abbrev pub invariant-facts : goal.invariant-facts
invariant-facts l = record {
  instances : l.tally.instances ≡ l.fn.tally.instances;
  target : l.tally.target ≡ l.fn.tally.target;
  added : l.tally.added ≡ l.fact-index;
  stands : CubeStandsFor l.tally (map cube_fact_of (take l.fact-index l.fact-items));
}
