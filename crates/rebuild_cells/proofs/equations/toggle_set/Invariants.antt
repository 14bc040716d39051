-- `toggle_set`: the cells of the set come one by one. The invariant: those still to come, toggled
-- in the marks as they are, give what all give in the marks as they were.
use Prim.Native.Nat.{◌+◌, ◌*◌}
use Rattle.parity_sets.specs.CellsLeft.{cells_left}
use Rattle.parity_sets.specs.ParitySets.{cells_of}
use Rattle.rebuild_cells.proofs.ToggleLoops.{Toggling}
use Rattle.rebuild_cells.proofs.equations.toggle_set.Given as goal

abbrev pub invariant-loop-cell : goal.invariant-loop-cell
invariant-loop-cell l = Toggling (l.fn.array.width * (l.fn.array.disks + 2)) (cells_of l.fn.array.width l.fn.array.disks l.fn.set) l.initial.marks l.marks (cells_left l.cell-iterator)
