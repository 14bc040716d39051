-- `cuzhaveli_fewest_plan`: what the call promises.
use Rattle.cuzhaveli_plans.proofs.cuzhaveli_fewest_plan.Goals as goal

pub returns : goal.returns
returns c = c.fewest_plan.ensures
