use Rattle.olap_cube.proofs.CubeLemmas.{one_cube_facts_views}
use Rattle.olap_cube.proofs.laws.one_cube_facts_views.Goals as goal

pub returns : goal.returns
returns c = one_cube_facts_views
