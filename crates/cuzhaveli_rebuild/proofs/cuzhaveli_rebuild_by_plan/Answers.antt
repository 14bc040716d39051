-- `cuzhaveli_rebuild_by_plan`: what the call promises.
use Rattle.cuzhaveli_rebuild.proofs.cuzhaveli_rebuild_by_plan.Goals as goal

pub returns : goal.returns
returns c = c.rebuild_by_plan.ensures
