-- `cuzhaveli_judge_plan`: what the call promises.
use Rattle.cuzhaveli_plans.proofs.cuzhaveli_judge_plan.Goals as goal

pub returns : goal.returns
returns c = c.judge_plan.ensures
