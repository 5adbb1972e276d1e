use Rattle.olap_cube_views.proofs.CubeMeaningLemmas.{cube-facts-named}
use Rattle.olap_cube_views.proofs.laws.cube_facts_are_meant.Goals as goal

pub returns : goal.returns
returns c = cube-facts-named
