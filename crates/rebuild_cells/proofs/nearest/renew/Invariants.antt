-- `renew`: each word so far is as it was, or the sum.
use lib.ListN.{length}
use Rattle.rebuild_cells.specs.Renewed.{Renewed}
use Rattle.rebuild_cells.specs.RowLists.{sums_of}
use Rattle.rebuild_cells.proofs.nearest.renew.Given as goal

abbrev pub invariant-loop-x : goal.invariant-loop-x
invariant-loop-x l = Renewed (length l.initial.near) l.d (sums_of l.rows) l.initial.near l.near
