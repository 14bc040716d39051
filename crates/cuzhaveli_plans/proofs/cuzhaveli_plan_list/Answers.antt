-- `cuzhaveli_plan_list`: what the call promises.
use Rattle.cuzhaveli_plans.proofs.cuzhaveli_plan_list.Goals as goal

pub returns : goal.returns
returns c = c.plan_list.ensures
