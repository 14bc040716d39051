-- `mark_set`: the cells of the set come one by one, and each turn marks the next. The invariant: the
-- marks so far, with the cells still to come, give the marks and the count of the whole set.
use Prim.Native.Nat.{◌+◌, ◌*◌}
use Rattle.parity_sets.specs.ParitySets.{cells_of}
use Rattle.parity_sets.specs.CellsLeft.{cells_left}
use Rattle.parity_sets.proofs.MarkLaws.{Marking}
use Rattle.parity_sets.proofs.marks.mark_set.Given as goal

abbrev pub invariant-loop-cell : goal.invariant-loop-cell
invariant-loop-cell l = Marking (l.array.width * (l.array.disks + 2)) l.array.width l.lost (cells_of l.array.width l.array.disks l.fn.set) l.initial.marks l.marks l.fresh (cells_left l.cell-iterator)
