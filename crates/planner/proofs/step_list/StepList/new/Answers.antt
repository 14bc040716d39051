-- `new`: there is no step yet.
use Rattle.std.proofs.Common.{refl, arith}
use Rattle.liberation.specs.Records.{recorded}
use Rattle.planner.proofs.step_list.StepList.new.Goals as goal

pub invariant_of-result : goal.invariant_of-result
unfolding recorded
invariant_of-result c = record { within = omega arith; holds = c.none.ensures }

pub returns : goal.returns
unfolding recorded
returns c = refl
