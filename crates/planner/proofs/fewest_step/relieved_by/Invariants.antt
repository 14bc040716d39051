-- `relieved_by`: each turn adds what the next disk of the walk is relieved of.
use Rattle.planner.proofs.RelievedSteps.{Summed}
use Rattle.planner.proofs.fewest_step.relieved_by.Given as goal

abbrev pub invariant-loop-steps : goal.invariant-loop-steps
invariant-loop-steps l = Summed l.array.width l.array.disks l.lost l.step l.steps l.disk l.sum
