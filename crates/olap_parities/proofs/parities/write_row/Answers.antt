-- The row of a parity that holds adds up to nothing.
use Rattle.std.proofs.Common.{ap, ◌∙◌}
use Rattle.olap_parities.specs.Sums.{sum_over}
use Rattle.olap_parities.proofs.parities.write_row.Goals as goal

pub returns-in-Some-row-clause-zero : goal.returns-in-Some-row-clause-zero
returns-in-Some-row-clause-zero c = λ v t knows zero.
    c.keep_row.ensures v c.args.columns.now zero
    (c.in-Some-row.ensures v (ap (sum_over v) c.variables.ensures ∙ c.in-Some.ensures.right v t knows))
