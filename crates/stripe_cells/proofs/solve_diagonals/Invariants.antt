-- `solve_diagonals`: each turn does the next step. The invariant: the steps still to come, done to
-- the stripe as it is, give what all steps give to the stripe as it was.
use Rattle.std.proofs.Common.{◌≡◌, ◌+◌, length}
use Rattle.liberation.specs.Plans.{all_of}
use Rattle.liberation.specs.Stripes.Stripes.{followed}
use Rattle.stripe_cells.proofs.LoopLaws.{rest}
use Rattle.stripe_cells.proofs.solve_diagonals.Given as goal

abbrev pub invariant-loop-number : goal.invariant-loop-number
invariant-loop-number l =
    let a = l.geometry.array in
    (length l.stripe ≡ length l.initial.stripe)
    × (rest a.width a.disks l.geometry.cell_size (a.disks + 1) 1 l.number l.stripe ≡ followed a.width a.disks l.geometry.cell_size (a.disks + 1) (all_of a.width 1 0) l.initial.stripe)
