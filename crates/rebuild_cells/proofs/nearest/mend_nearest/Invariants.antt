-- `mend_nearest`: each turn mends a cell of those left.
use lib.ListN.{length}
use Rattle.rebuild_cells.specs.RowLists.{sums_of}
use Rattle.rebuild_cells.proofs.NearestTurns.{Turning}
use Rattle.rebuild_cells.proofs.Theory.NearLaws.{left_to}
use Rattle.rebuild_cells.proofs.nearest.mend_nearest.Given as goal

abbrev pub invariant-loop-next : goal.invariant-loop-next
invariant-loop-next l = Turning l.geometry.array.width l.geometry.array.disks l.geometry.cell_size l.cells (sums_of l.rows) l.initial.stripe l.near l.stripe l.left

abbrev pub decreases-loop-next : goal.decreases-loop-next
decreases-loop-next l = left_to (length l.cells) l.left
