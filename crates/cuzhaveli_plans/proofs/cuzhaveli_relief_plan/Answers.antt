-- `cuzhaveli_relief_plan`: what the call promises.
use Rattle.cuzhaveli_plans.proofs.cuzhaveli_relief_plan.Goals as goal

pub returns : goal.returns
returns c = c.relief_plan.ensures
