use Rattle.olap_cube.proofs.OneDimensionLemmas.{cubes_of_one_dimension}
use Rattle.olap_cube.proofs.laws.cubes_of_one_dimension.Goals as goal

pub returns : goal.returns
returns c = cubes_of_one_dimension
