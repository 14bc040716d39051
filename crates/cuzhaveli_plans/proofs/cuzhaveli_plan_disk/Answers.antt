-- `cuzhaveli_plan_disk`: what the call promises.
use Rattle.cuzhaveli_plans.proofs.cuzhaveli_plan_disk.Goals as goal

pub returns : goal.returns
returns c = c.plan_disk.ensures
