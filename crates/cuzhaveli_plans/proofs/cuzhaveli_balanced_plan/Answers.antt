-- `cuzhaveli_balanced_plan`: what the call promises.
use Rattle.cuzhaveli_plans.proofs.cuzhaveli_balanced_plan.Goals as goal

pub returns : goal.returns
returns c = c.balanced_plan.ensures
