use Rattle.olap_cube.proofs.ChoiceLemmas.{cube_summarizable_exactly}
use Rattle.olap_cube.proofs.laws.cube_summarizable_exactly_if_none_bad.Goals as goal

pub returns : goal.returns
returns c = cube_summarizable_exactly c.candidates_exist.ensures
