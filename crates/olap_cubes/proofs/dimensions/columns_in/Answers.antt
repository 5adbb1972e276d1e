-- The columns that were added to none.
use Rattle.olap_cubes.proofs.FilesLemmas.{as_ended, ended_so}
use Rattle.olap_cubes.proofs.dimensions.columns_in.Goals as goal

pub returns-in_err-add_columns-clause-step : goal.returns-in_err-add_columns-clause-step
returns-in_err-add_columns-clause-step g c =
    as_ended c.from_residual.result c.in_err-add_columns.field-0.0 c.from_residual.ensures.1
    (ended_so c.in_err-add_columns.ensures.step)
