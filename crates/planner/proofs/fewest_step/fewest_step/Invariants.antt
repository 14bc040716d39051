-- `fewest_step`: the best of the steps before this one, and what it relieves.
use Rattle.planner.proofs.RelievedSteps.{Tried}
use Rattle.planner.proofs.fewest_step.fewest_step.Given as goal

abbrev pub invariant-loop-step : goal.invariant-loop-step
invariant-loop-step l = Tried l.array.width l.array.disks l.lost l.step l.best l.most
