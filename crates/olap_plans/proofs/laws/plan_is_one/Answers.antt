-- The law of plans.
use Rattle.olap_plans.proofs.OneAnswer.{plan_is_one}
use Rattle.olap_plans.proofs.laws.plan_is_one.Goals as goal

pub returns : goal.returns
returns c = plan_is_one
