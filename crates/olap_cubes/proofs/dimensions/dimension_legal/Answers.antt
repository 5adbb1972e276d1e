-- The label is that of the dimension.
use Rattle.olap_cubes.proofs.FilesLemmas.{no_memory_yet, no_value}
use Rattle.olap_cubes.proofs.dimensions.dimension_legal.Goals as goal

pub returns-in_err-label-clause-step : goal.returns-in_err-label-clause-step
returns-in_err-label-clause-step g c = no_memory_yet c.from_residual.result c.from_residual.ensures.1

pub returns-in_err-label-clause-made : goal.returns-in_err-label-clause-made
returns-in_err-label-clause-made g c = no_value _ _ c.from_residual.result c.from_residual.ensures.1
