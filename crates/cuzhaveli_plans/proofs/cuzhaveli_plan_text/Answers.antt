-- `cuzhaveli_plan_text`: what the call promises.
use Rattle.cuzhaveli_plans.proofs.cuzhaveli_plan_text.Goals as goal

pub returns : goal.returns
returns c = c.plan_text.ensures
