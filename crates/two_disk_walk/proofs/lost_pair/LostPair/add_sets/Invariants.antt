-- `add_sets`: each turn does the two steps of a row. The invariant: the rows still to come, done to
-- the stripe as it is, give what all rows give to the stripe as it was.
use mathlib.Core.Path.{◌≡◌}
use Prim.Native.Nat.{◌-◌, ◌<◌}
use lib.ListN.{length}
use Rattle.liberation.specs.TwoDisks.PairSteps.{walk_steps}
use Rattle.liberation.specs.TwoDisksBySums.Sums.{added_all}
use Rattle.two_disk_walk.proofs.lost_pair.LostPair.add_sets.Given as goal

abbrev pub invariant-loop : goal.invariant-loop
invariant-loop l = let g = l.self.geometry in let w = g.array.width in let k = g.array.disks in let s = g.cell_size in (l.row < w) × (length l.stripe ≡ length l.initial.stripe) × (added_all w k s l.self.x l.self.y (walk_steps (l.count - l.counter) w l.self.x l.self.y l.row) l.stripe ≡ added_all w k s l.self.x l.self.y (walk_steps l.count w l.self.x l.self.y l.initial.row) l.initial.stripe)
