-- The law of what a plan gives.
use Rattle.olap_plans.proofs.OneAnswer.{plans_give_direct_views}
use Rattle.olap_plans.proofs.laws.plans_give_direct_views.Goals as goal

pub returns : goal.returns
returns c = plans_give_direct_views
