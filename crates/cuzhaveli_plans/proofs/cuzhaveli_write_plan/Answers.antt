-- `cuzhaveli_write_plan`: what the call promises.
use Rattle.cuzhaveli_plans.proofs.cuzhaveli_write_plan.Goals as goal

pub returns : goal.returns
returns c = c.write_plan.ensures
