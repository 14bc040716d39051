-- `cuzhaveli_read_list`: what the call promises, at its answer.
use Rattle.refusals.proofs.AnswerLaws.{answer_is}
use Rattle.cuzhaveli_plans.proofs.cuzhaveli_read_list.Goals as goal

pub returns : goal.returns
returns c = rw (answer_is _ _ c.into.ensures) c.read_list.ensures
