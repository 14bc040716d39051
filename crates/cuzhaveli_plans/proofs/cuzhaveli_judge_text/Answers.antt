-- `cuzhaveli_judge_text`: what the call promises.
use Rattle.cuzhaveli_plans.proofs.cuzhaveli_judge_text.Goals as goal

pub returns : goal.returns
returns c = c.judge_text.ensures
