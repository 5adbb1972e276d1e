use Rattle.olap_check.specs.FirstViolation.{first_violation_is}
use Rattle.olap_check.proofs.violations.first_violation_is_first.Goals as goal

pub returns : goal.returns
returns c = first_violation_is
