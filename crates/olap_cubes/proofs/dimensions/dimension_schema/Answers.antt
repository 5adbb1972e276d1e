-- The label is that of the dimension.
use Rattle.olap_cubes.proofs.FilesLemmas.{no_memory_yet}
use Rattle.olap_cubes.proofs.dimensions.dimension_schema.Goals as goal

pub returns-in_err-label : goal.returns-in_err-label
returns-in_err-label g c = record {
  step = no_memory_yet c.from_residual.result c.from_residual.ensures.1;
}
