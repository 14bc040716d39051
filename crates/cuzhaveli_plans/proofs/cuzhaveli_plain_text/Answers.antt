-- `cuzhaveli_plain_text`: what the call promises.
use Rattle.cuzhaveli_plans.proofs.cuzhaveli_plain_text.Goals as goal

pub returns : goal.returns
returns c = c.plain_text.ensures
