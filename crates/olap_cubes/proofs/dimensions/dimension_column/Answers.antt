-- The column has the instance that was read.
use Rattle.std.proofs.Common.{ap}
use Rattle.olap_view.specs.Columns.{Ascent}
use Rattle.olap_cubes.proofs.FilesLemmas.{as_ended, as_read, ended_so, ran_out}
use Rattle.olap_cubes.proofs.dimensions.dimension_column.Goals as goal

pub returns-in_err-legal-clause-step : goal.returns-in_err-legal-clause-step
returns-in_err-legal-clause-step g c =
    as_ended c.from_residual.result c.in_err-legal.field-0.0 c.from_residual.ensures.1
    (ended_so c.in_err-legal.ensures.step)

pub returns-clause-step : goal.returns-clause-step
returns-clause-step g c =
    as_read c.in_ok-column.column
    (rw (ap (λ (a : Ascent). a.instance) c.in_ok-column.ensures) c.in_ok-legal.ensures.step)

pub returns-in_err-column-clause-step : goal.returns-in_err-column-clause-step
returns-in_err-column-clause-step g c =
    let stop = c.from_residual-in_err-column in
    ran_out stop.result stop.ensures.1 c.in_ok-legal.ensures.step.later c.in_ok-legal.ensures.step.same
