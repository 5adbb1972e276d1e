use Rattle.olap_cube.proofs.CubeLemmas.{cubes_agree_exactly}
use Rattle.olap_cube.proofs.laws.cubes_agree_exactly_if_reached_by_one.Goals as goal

pub returns : goal.returns
returns c = cubes_agree_exactly
