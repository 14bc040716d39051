-- `cuzhaveli_rebuild_balanced`: what the call promises, as C gets its answer.
use Rattle.refusals.proofs.AnswerLaws.{answer_is}
use Rattle.cuzhaveli_rebuild.proofs.cuzhaveli_rebuild_balanced.Goals as goal

pub returns : goal.returns
returns c = rw (answer_is _ _ c.into.ensures) c.rebuild_balanced.ensures
