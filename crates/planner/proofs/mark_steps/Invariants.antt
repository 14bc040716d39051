-- `mark_steps`: each turn marks the set of the next step. The invariant: the marks stand for the
-- cells read so far, and with the steps still to come they give all that the plan reads.
use Rattle.planner.specs.StepRecords.{held}
use Rattle.planner.proofs.MarkingLoop.{Reading}
use Rattle.planner.proofs.mark_steps.Given as goal

abbrev pub invariant-loop-place : goal.invariant-loop-place
invariant-loop-place l = Reading l.array.width l.array.disks l.lost (held l.array.width l.steps) l.marks l.reads l.place
