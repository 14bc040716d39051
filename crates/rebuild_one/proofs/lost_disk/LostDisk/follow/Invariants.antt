-- `follow`: each turn does the next step of the plan. The invariant: the steps still to come, on
-- the stripe with the column as it stands, give what all steps give.
use Rattle.planner.specs.StepRecords.{held}
use Rattle.rebuild_one.proofs.FollowLaws.{Stepping}
use Rattle.rebuild_one.proofs.lost_disk.LostDisk.follow.Given as goal

abbrev pub invariant-loop-i : goal.invariant-loop-i
invariant-loop-i l = let g = l.self.geometry in Stepping g.array.width g.array.disks g.cell_size l.self.disk (held g.array.width l.steps) l.stripe l.initial.column l.column l.i
