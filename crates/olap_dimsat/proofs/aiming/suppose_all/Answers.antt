-- One source after the other.
use Rattle.std.proofs.Common.{◌∙◌}
use Rattle.olap_dimsat.proofs.aiming.suppose_all.Goals as goal

pub returns-then-not-suppose_so-clause-admits : goal.returns-then-not-suppose_so-clause-admits
returns-then-not-suppose_so-clause-admits c = λ v a. c.suppose_so.ensures.admits v (c.sources.invariant.admits v a)

pub sources-preserved : goal.sources-preserved
sources-preserved c = record {
  variables = c.suppose_so.ensures.variables ∙ c.sources.invariant.variables;
  admits = λ v a. c.suppose_so.ensures.admits v (c.sources.invariant.admits v a);
}
