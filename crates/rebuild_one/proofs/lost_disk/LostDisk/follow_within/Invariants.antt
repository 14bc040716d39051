-- `follow_within`: each turn does the next step of our plan, which solves an ordinary cell. The
-- invariant: the steps still to come, done to the stripe as it is, give what all steps give to the
-- stripe as it was.
use mathlib.Core.Path.{◌≡◌}
use lib.ListN.{length}
use Rattle.liberation.specs.Plans.{plan_of}
use Rattle.liberation.specs.Stripes.Stripes.{followed}
use Rattle.rebuild_one.proofs.InPlaceSteps.{steps_rest}
use Rattle.rebuild_one.proofs.lost_disk.LostDisk.follow_within.Given as goal

abbrev pub invariant-loop-i : goal.invariant-loop-i
invariant-loop-i l = let g = l.self.geometry in let w = g.array.width in let k = g.array.disks in (length l.stripe ≡ length l.initial.stripe) × (steps_rest w k l.self.disk g.cell_size l.i l.stripe ≡ followed w k g.cell_size l.self.disk (plan_of w k l.self.disk) l.initial.stripe)
